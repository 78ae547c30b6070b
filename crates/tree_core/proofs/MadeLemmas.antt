-- Calls that were made on a tree: none, one, and several one after the other.
use Rattle.std.proofs.Common.{◌≡◌, ℕ, ◌≤◌, Bool, List, [], ◌∷◌, ◌++◌, append-nil, append_assoc, map, Option, Result, Ok, Err, refl, ap, sym, subst, ◌∙◌, arith}
use Rattle.std.specs.Option.{ForSome}
use Rattle.std.proofs.lemmas.List.{append_cancel_left}
use Rattle.std.proofs.lemmas.List.Elements.{All-nil, All-cons, All-append}
use Rattle.tree_core.specs.Answer.{ReadAnswers, ListAnswers, FileAnswers, ExistsAnswers, FailsOrLacksMemory, listed_entry}
use Rattle.tree_core.specs.Call as call
use Rattle.tree_core.specs.Call.{CallAnswer, Call}
use Rattle.tree_core.specs.Content.{Content, node_at, entries_in, resolve}
use Rattle.tree_core.specs.Faults.{count_after, next_count}
use Rattle.tree_core.specs.Hearing.{Made, MadeSome}
use Rattle.tree_core.specs.Trace.{Says, call_answer, exists_call, fault_behind, faults_after, file_call, list_answer, list_call, read_answer, read_call}
use Rattle.tree_core.specs.declared.tree.TreeError.{TreeError}
use Rattle.tree_core.specs.declared.tree.TreeError.TheVariants.{Absent, WrongKind, Failed, Memory}
use Rattle.tree_core.specs.declared.tree.Entry.{Entry}

-- ---- counts

pub faults_after-append : (count : ℕ) (calls more : List Call) → faults_after count (calls ++ more) ≡ faults_after (faults_after count calls) more
faults_after-append count [] more = refl
faults_after-append count (one ∷ calls) more = faults_after-append (fault_behind count one.answer) calls more

counted_later : (count : ℕ) → count ≤ next_count count
counted_later count = omega arith

behind_later : (count : ℕ) (answer : CallAnswer) → count ≤ fault_behind count answer
behind_later count (call.bytes items) = omega arith
behind_later count (call.entries items) = omega arith
behind_later count (call.told answer) = omega arith
behind_later count call.absent = omega arith
behind_later count call.wrong_kind = omega arith
behind_later count call.failed = counted_later count
behind_later count call.no_memory = omega arith

-- the count never falls
pub faults_after-later : (count : ℕ) (calls : List Call) → count ≤ faults_after count calls
faults_after-later count [] = omega arith
faults_after-later count (one ∷ calls) =
    let here = behind_later count one.answer in
    let rest = faults_after-later (fault_behind count one.answer) calls in omega arith

-- the count behind an answer, as the trait says it and as the call says it
answered_counts : (X : Type 0) (tell : X → CallAnswer) (count : ℕ) → ((value : X) → fault_behind count (tell value) ≡ count) → (result : Result X TreeError) → count_after count result ≡ fault_behind count (call_answer tell result)
answered_counts X tell count quiet (Ok value) = sym (quiet value)
answered_counts X tell count quiet (Err Absent) = refl
answered_counts X tell count quiet (Err WrongKind) = refl
answered_counts X tell count quiet (Err Failed) = refl
answered_counts X tell count quiet (Err Memory) = refl

-- ---- what one call says

read_says : (content : Content) (path : List ℕ) (result : Result (List ℕ) TreeError) → ReadAnswers (node_at content path) result → Says content (read_call path result)
read_says content path (Ok bytes) is = ap read_answer (sym is)
read_says content path (Err Absent) is = ap read_answer (sym is)
read_says content path (Err WrongKind) is = ap read_answer (sym is)
read_says content path (Err Failed) is = tt
read_says content path (Err Memory) is = tt

list_says : (content : Content) (path : List ℕ) (result : Result (List Entry) TreeError) → ListAnswers content path result → Says content (list_call path result)
list_says content path (Ok items) is =
    ap call.entries is.1 ∙ ap (list_answer (entries_in content (resolve path))) (sym is.0)
list_says content path (Err Absent) is = ap (list_answer (entries_in content (resolve path))) (sym is)
list_says content path (Err WrongKind) is = ap (list_answer (entries_in content (resolve path))) (sym is.1)
list_says content path (Err Failed) is = tt
list_says content path (Err Memory) is = tt

file_says : (content : Content) (path : List ℕ) (result : Result Bool TreeError) → FileAnswers (node_at content path) result → FailsOrLacksMemory result → Says content (file_call path result)
file_says content path (Ok answer) is refusal = ap call.told is
file_says content path (Err Absent) is refusal = absurd (refusal.0 refl)
file_says content path (Err WrongKind) is refusal = absurd (refusal.1 refl)
file_says content path (Err Failed) is refusal = tt
file_says content path (Err Memory) is refusal = tt

exists_says : (content : Content) (path : List ℕ) (result : Result Bool TreeError) → ExistsAnswers (node_at content path) result → FailsOrLacksMemory result → Says content (exists_call path result)
exists_says content path (Ok answer) is refusal = ap call.told is
exists_says content path (Err Absent) is refusal = absurd (refusal.0 refl)
exists_says content path (Err WrongKind) is refusal = absurd (refusal.1 refl)
exists_says content path (Err Failed) is refusal = tt
exists_says content path (Err Memory) is refusal = tt

-- ---- none

pub made_none : (told : Option Content) (count : ℕ) (old : List Call) → Made told told count count old old []
made_none told count old = record { content = refl; counts = refl; traced = sym (append-nil old); says = λ content is. All-nil (Says content) }

-- ---- one, by the clauses of the tree

module _ {told tells : Option Content} {before after : ℕ} {old new : List Call} (path : List ℕ) (same : tells ≡ told) where
  pub one_made : (one : Call) → after ≡ fault_behind before one.answer → new ≡ old ++ one ∷ [] → ForSome told (λ c. Says c one) → Made told tells before after old new (one ∷ [])
  one_made one counts traced says = record {
    content = same;
    counts = counts;
    traced = traced;
    says = λ content is. All-cons (Says content) one [] (says content is) (All-nil (Says content));
  }

  pub read_made : (result : Result (List ℕ) TreeError) → after ≡ count_after before result → new ≡ old ++ read_call path result ∷ [] →
      ForSome told (λ c. ReadAnswers (node_at c path) result) → Made told tells before after old new (read_call path result ∷ [])
  read_made result counts traced answers =
      one_made (read_call path result) (counts ∙ answered_counts (List ℕ) call.bytes before (λ bytes. refl) result) traced
      (λ content is. read_says content path result (answers content is))

  pub list_made : (result : Result (List Entry) TreeError) → after ≡ count_after before result → new ≡ old ++ list_call path result ∷ [] →
      ForSome told (λ c. ListAnswers c path result) → Made told tells before after old new (list_call path result ∷ [])
  list_made result counts traced answers =
      one_made (list_call path result) (counts ∙ answered_counts (List Entry) (λ items. call.entries (map listed_entry items)) before (λ items. refl) result) traced
      (λ content is. list_says content path result (answers content is))

  pub file_made : (result : Result Bool TreeError) → after ≡ count_after before result → new ≡ old ++ file_call path result ∷ [] →
      ForSome told (λ c. FileAnswers (node_at c path) result) → FailsOrLacksMemory result → Made told tells before after old new (file_call path result ∷ [])
  file_made result counts traced answers refusal =
      one_made (file_call path result) (counts ∙ answered_counts Bool call.told before (λ answer. refl) result) traced
      (λ content is. file_says content path result (answers content is) refusal)

  pub exists_made : (result : Result Bool TreeError) → after ≡ count_after before result → new ≡ old ++ exists_call path result ∷ [] →
      ForSome told (λ c. ExistsAnswers (node_at c path) result) → FailsOrLacksMemory result → Made told tells before after old new (exists_call path result ∷ [])
  exists_made result counts traced answers refusal =
      one_made (exists_call path result) (counts ∙ answered_counts Bool call.told before (λ answer. refl) result) traced
      (λ content is. exists_says content path result (answers content is) refusal)

-- ---- several

-- calls, and then more
pub made_joined : {told mid tells : Option Content} {before middle after : ℕ} {old between new calls more : List Call} →
    Made told mid before middle old between calls → Made mid tells middle after between new more → Made told tells before after old new (calls ++ more)
made_joined {told} {mid} {tells} {before} {middle} {after} {old} {between} {new} {calls} {more} first then = record {
  content = then.content ∙ first.content;
  counts = then.counts ∙ ap (λ count. faults_after count more) first.counts ∙ sym (faults_after-append before calls more);
  traced = then.traced ∙ ap (λ those. those ++ more) first.traced ∙ append_assoc old calls more;
  says = λ content is. All-append (Says content) calls more (first.says content is) (then.says content (first.content ∙ is));
}

-- the same calls, by another name
pub made_as : {told tells : Option Content} {before after : ℕ} {old new calls others : List Call} → calls ≡ others → Made told tells before after old new calls → Made told tells before after old new others
made_as {told} {tells} {before} {after} {old} {new} {calls} {others} is made = subst (λ those. Made told tells before after old new those) is made

-- the count does not fall behind calls
pub made-later : {told tells : Option Content} {before after : ℕ} {old new calls : List Call} → Made told tells before after old new calls → before ≤ after
made-later {told} {tells} {before} {after} {old} {new} {calls} made = subst (λ count. before ≤ count) (sym made.counts) (faults_after-later before calls)

-- ---- some calls, whichever they were

pub some_made : {told tells : Option Content} {before after : ℕ} {old new calls : List Call} → Made told tells before after old new calls → MadeSome told tells before after old new
some_made {told} {tells} {before} {after} {old} {new} {calls} made = record { calls = calls; made = made }

pub some_none : (told : Option Content) (count : ℕ) (old : List Call) → MadeSome told told count count old old
some_none told count old = some_made (made_none told count old)

pub some_joined : {told mid tells : Option Content} {before middle after : ℕ} {old between new : List Call} →
    MadeSome told mid before middle old between → MadeSome mid tells middle after between new → MadeSome told tells before after old new
some_joined first then = some_made (made_joined first.made then.made)

pub some-later : {told tells : Option Content} {before after : ℕ} {old new : List Call} → MadeSome told tells before after old new → before ≤ after
some-later some = made-later some.made

-- they are those that are at the end of the trace
pub made_these : {told tells : Option Content} {before after : ℕ} {old new calls : List Call} → MadeSome told tells before after old new → new ≡ old ++ calls → Made told tells before after old new calls
made_these {told} {tells} {before} {after} {old} {new} {calls} some is =
    made_as (append_cancel_left old some.calls calls (sym some.made.traced ∙ is)) some.made

-- a read, by the clauses of the tree
pub read_some : {told tells : Option Content} {before after : ℕ} {old new : List Call} (path : List ℕ) (result : Result (List ℕ) TreeError) → tells ≡ told → after ≡ count_after before result →
    new ≡ old ++ read_call path result ∷ [] → ForSome told (λ c. ReadAnswers (node_at c path) result) → MadeSome told tells before after old new
read_some path result same counts traced answers = some_made (read_made path same result counts traced answers)

-- a listing
pub list_some : {told tells : Option Content} {before after : ℕ} {old new : List Call} (path : List ℕ) (result : Result (List Entry) TreeError) → tells ≡ told → after ≡ count_after before result →
    new ≡ old ++ list_call path result ∷ [] → ForSome told (λ c. ListAnswers c path result) → MadeSome told tells before after old new
list_some path result same counts traced answers = some_made (list_made path same result counts traced answers)

-- a look for anything
pub exists_some : {told tells : Option Content} {before after : ℕ} {old new : List Call} (path : List ℕ) (result : Result Bool TreeError) → tells ≡ told → after ≡ count_after before result →
    new ≡ old ++ exists_call path result ∷ [] → ForSome told (λ c. ExistsAnswers (node_at c path) result) → FailsOrLacksMemory result → MadeSome told tells before after old new
exists_some path result same counts traced answers refusal = some_made (exists_made path same result counts traced answers refusal)
