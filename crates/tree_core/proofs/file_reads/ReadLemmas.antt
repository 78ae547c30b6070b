-- Reads that are made one after another.
use Rattle.std.proofs.Common.{◌≡◌, ℕ, ◌-◌, ◌^◌, ◌<◌, ◌≤◌, inl, inr, ltb, arith, Bool, true, false, cond, List, [], ◌∷◌, ◌++◌, append-nil, append_assoc, Option, None, Some, refl, sym, ap, subst, ◌∙◌}
use Rattle.std.proofs.lemmas.Bool.Decides.{Decides-ltb}
use Rattle.std.proofs.lemmas.List.{map-append}
use Rattle.std.specs.Str.{is_utf8}
use Rattle.std.specs.Prelude.{unwrap_or}
use Rattle.tree_core.specs.Call as call
use Rattle.tree_core.specs.Call.{CallAnswer, Call}
use Rattle.tree_core.specs.Content.{Content, file}
use Rattle.tree_core.specs.Faults.{Rose, next_count}
use Rattle.tree_core.specs.Hearing.{Made}
use Rattle.tree_core.specs.Trace.{fault_behind, faults_after}
use Rattle.tree_core.proofs.MadeLemmas.{made_as, made_joined, made_none}
use Rattle.tree_core.specs.declared.reads.ReadAnswer.{ReadAnswer}
use Rattle.tree_core.specs.declared.reads.ReadKind.{ReadKind}
use Rattle.tree_core.specs.declared.reads.ReadKind.TheVariants.{Manifest, Listing, LicenseFile}
use Rattle.tree_core.specs.declared.reads.ReadRecord.{ReadRecord}
use Rattle.tree_core.specs.file_reads.Answered.{file_answered, folder_answered}
use Rattle.tree_core.specs.file_reads.Heard.{ReadResult, failed, absent, wrong_kind, not_utf8, text, entries, read_answer_of, file_heard, read_record_of}
use Rattle.tree_core.specs.file_reads.Rising.{RiseFrom, RiseInOrder, RoseBy}
use Rattle.tree_core.specs.file_reads.Read.{AreReads, LackedMemory, MadeReads, AnsweredRead, ReadsRise, call_for, call_lost, calls_in, counts_carried, first_heard, kind_answered, read_heard, records_of_reads}

-- ---- one after another

pub calls_in-append : (folder : List ℕ) (reads more : List AnsweredRead) → calls_in folder (reads ++ more) ≡ calls_in folder reads ++ calls_in folder more
calls_in-append folder reads more = map-append (λ (read : AnsweredRead). call_for folder read.recorded read.answer) reads more

pub records_in-append : (reads more : List AnsweredRead) → records_of_reads (reads ++ more) ≡ records_of_reads reads ++ records_of_reads more
records_in-append reads more = map-append (λ (read : AnsweredRead). read.recorded) reads more

pub are_joined : (before : ℕ) (folder : List ℕ) (reads more : List AnsweredRead) → AreReads before reads → AreReads (faults_after before (calls_in folder reads)) more → AreReads before (reads ++ more)
are_joined before folder [] more first then = then
are_joined before folder (read ∷ reads) more first then = (first.0, are_joined (fault_behind before read.answer) folder reads more first.1 then)

then_are : {told mid : Option Content} {before middle : ℕ} {old between : List Call} (folder : List ℕ) (reads more : List AnsweredRead) → MadeReads told mid before middle old between folder reads
    → AreReads middle more → AreReads before (reads ++ more)
then_are {told} {mid} {before} folder reads more first then = are_joined before folder reads more first.are (subst (λ count. AreReads count more) first.made.counts then)

module _ {told mid tells : Option Content} {before middle after : ℕ} {old between new : List Call} (folder : List ℕ) (reads more : List AnsweredRead) where
  pub reads_joined : MadeReads told mid before middle old between folder reads → MadeReads mid tells middle after between new folder more → MadeReads told tells before after old new folder (reads ++ more)
  reads_joined first then = record {
    made = made_as (sym (calls_in-append folder reads more)) (made_joined first.made then.made);
    are = then_are folder reads more first then.are;
  }

  pub reads_lacking : (lost : Option ReadRecord) → MadeReads told mid before middle old between folder reads → LackedMemory mid tells middle after between new folder more lost
      → LackedMemory told tells before after old new folder (reads ++ more) lost
  reads_lacking lost first then = record {
    made = made_as (sym (ap (λ calls. calls ++ call_lost folder lost) (calls_in-append folder reads more) ∙ append_assoc (calls_in folder reads) (calls_in folder more) (call_lost folder lost)))
        (made_joined first.made then.made);
    are = then_are folder reads more first then.are;
  }

-- no read
pub no_reads : (told : Option Content) (count : ℕ) (calls : List Call) (folder : List ℕ) → MadeReads told told count count calls calls folder []
no_reads told count calls folder = record { made = made_none told count calls; are = tt }

-- memory was wanting behind the reads
pub lacked_behind : {told tells : Option Content} {before after : ℕ} {old new : List Call} (folder : List ℕ) (reads : List AnsweredRead)
    → MadeReads told tells before after old new folder reads → LackedMemory told tells before after old new folder reads None
lacked_behind folder reads made = record { made = made_as (sym (append-nil (calls_in folder reads))) made.made; are = made.are }

-- ---- one read

-- what is read by an answer is what its record and the answer say
file_recorded : (kind : ReadKind) (path : List ℕ) (before after : ℕ) (answer : CallAnswer) (heard : ReadResult) → file_answered before after answer ≡ Some heard
    → unwrap_or (file_answered (counts_carried (read_answer_of heard)).0 (counts_carried (read_answer_of heard)).1 answer) absent ≡ heard
file_recorded kind path before after (call.bytes items) heard is = let same : file_heard (Some (file items)) ≡ heard = cc in same
file_recorded kind path before after (call.entries items) heard is = cc
file_recorded kind path before after (call.told answer) heard is = cc
file_recorded kind path before after call.absent heard is = let same : absent ≡ heard = cc in same
file_recorded kind path before after call.wrong_kind heard is = let same : wrong_kind ≡ heard = cc in same
file_recorded kind path before after call.failed heard is =
    let same : failed before after ≡ heard = cc in
    subst (λ (one : ReadResult). failed (counts_carried (read_answer_of one)).0 (counts_carried (read_answer_of one)).1 ≡ one) same refl
file_recorded kind path before after call.no_memory heard is = cc

folder_recorded : (before after : ℕ) (answer : CallAnswer) (heard : ReadResult) → folder_answered before after answer ≡ Some heard
    → unwrap_or (folder_answered (counts_carried (read_answer_of heard)).0 (counts_carried (read_answer_of heard)).1 answer) absent ≡ heard
folder_recorded before after (call.bytes items) heard is = cc
folder_recorded before after (call.entries items) heard is = let same : entries items ≡ heard = cc in same
folder_recorded before after (call.told answer) heard is = cc
folder_recorded before after call.absent heard is = let same : absent ≡ heard = cc in same
folder_recorded before after call.wrong_kind heard is = let same : wrong_kind ≡ heard = cc in same
folder_recorded before after call.failed heard is =
    let same : failed before after ≡ heard = cc in
    subst (λ (one : ReadResult). failed (counts_carried (read_answer_of one)).0 (counts_carried (read_answer_of one)).1 ≡ one) same refl
folder_recorded before after call.no_memory heard is = cc

-- a read with its record
abbrev pub read_with : ReadKind → List ℕ → ReadResult → CallAnswer → AnsweredRead
read_with kind path heard answer = record { recorded = read_record_of kind path heard; answer = answer }

pub heard_recorded : (kind : ReadKind) (path : List ℕ) (before after : ℕ) (answer : CallAnswer) (heard : ReadResult) → kind_answered kind before after answer ≡ Some heard
    → read_heard (read_with kind path heard answer) ≡ heard
heard_recorded Manifest path before after answer heard is = file_recorded Manifest path before after answer heard is
heard_recorded Listing path before after answer heard is = folder_recorded before after answer heard is
heard_recorded LicenseFile path before after answer heard is = file_recorded LicenseFile path before after answer heard is

pub one_read : {told tells : Option Content} {before after : ℕ} {old new : List Call} (folder : List ℕ) (kind : ReadKind) (path : List ℕ) (heard : ReadResult) (answer : CallAnswer)
    → Made told tells before after old new (call_for folder (read_record_of kind path heard) answer ∷ []) → kind_answered kind before after answer ≡ Some heard
    → MadeReads told tells before after old new folder (read_with kind path heard answer ∷ [])
one_read {told} {tells} {before} {after} {old} {new} folder kind path heard answer made hears = record {
  made = made;
  are = (record { heard = heard; hears = subst (λ count. kind_answered kind before count answer ≡ Some heard) made.counts hears; tells = refl }, tt);
}

-- ---- the first that is asked for

-- one more that is not asked for
pub first_heard-skip : (is_asked : ReadRecord → Bool) (reads : List AnsweredRead) (read : AnsweredRead) → is_asked read.recorded ≡ false → first_heard is_asked (reads ++ read ∷ []) ≡ first_heard is_asked reads
first_heard-skip is_asked [] read is = ap (λ b. cond b (read_heard read) absent) is
first_heard-skip is_asked (first ∷ reads) read is =
    ap (λ rest. cond (is_asked first.recorded) (read_heard first) rest) (first_heard-skip is_asked reads read is)

-- ---- failed reads rise

not_less : (a b : ℕ) → ltb a b ≡ false → b ≤ a
not_less a b is = grind (arith, Decides-ltb a b)

-- a count that is counted on rose, or is at the last number
pub rose_counted : (count after : ℕ) → next_count count ≤ after → Rose count after
rose_counted count after later = elim (ltb count (2 ^ 64 - 1)) as (λ b. ltb count (2 ^ 64 - 1) ≡ b → Rose count after) [
  | true ↦ λ below. let less : count < 2 ^ 64 - 1 = (Decides-ltb count (2 ^ 64 - 1)).0 below in inl (omega arith)
  | false ↦ λ over. let most : 2 ^ 64 - 1 ≤ count = not_less count (2 ^ 64 - 1) over in inr (omega arith)
] refl

rose_by : (count : ℕ) → RoseBy count (next_count count)
rose_by count = record { later = omega arith; rose = rose_counted count (next_count count) (omega arith) }

-- bytes that were read say nothing of the count
bytes_rise : (before : ℕ) (items : List ℕ) (Rest : ℕ → Type 0) → Rest before → RiseFrom before (read_answer_of (file_heard (Some (file items)))) Rest
unfolding file_heard
bytes_rise before items Rest rest = elim (is_utf8 items) as (λ b. RiseFrom before (read_answer_of (cond b (text items) not_utf8)) Rest) [ true ↦ rest | false ↦ rest ]

file_rises : (before : ℕ) (answer : CallAnswer) (heard : ReadResult) (Rest : ℕ → Type 0) → file_answered before (fault_behind before answer) answer ≡ Some heard → Rest (fault_behind before answer)
    → RiseFrom before (read_answer_of heard) Rest
file_rises before (call.bytes items) heard Rest is rest =
    let same : file_heard (Some (file items)) ≡ heard = cc in subst (λ (one : ReadResult). RiseFrom before (read_answer_of one) Rest) same (bytes_rise before items Rest rest)
file_rises before (call.entries items) heard Rest is rest = cc
file_rises before (call.told answer) heard Rest is rest = cc
file_rises before call.absent heard Rest is rest = let same : absent ≡ heard = cc in subst (λ (one : ReadResult). RiseFrom before (read_answer_of one) Rest) same rest
file_rises before call.wrong_kind heard Rest is rest = let same : wrong_kind ≡ heard = cc in subst (λ (one : ReadResult). RiseFrom before (read_answer_of one) Rest) same rest
file_rises before call.failed heard Rest is rest =
    let same : failed before (next_count before) ≡ heard = cc in
    subst (λ (one : ReadResult). RiseFrom before (read_answer_of one) Rest) same (omega arith, rose_by before, rest)
file_rises before call.no_memory heard Rest is rest = cc

folder_rises : (before : ℕ) (answer : CallAnswer) (heard : ReadResult) (Rest : ℕ → Type 0) → folder_answered before (fault_behind before answer) answer ≡ Some heard → Rest (fault_behind before answer)
    → RiseFrom before (read_answer_of heard) Rest
folder_rises before (call.bytes items) heard Rest is rest = cc
folder_rises before (call.entries items) heard Rest is rest = let same : entries items ≡ heard = cc in subst (λ (one : ReadResult). RiseFrom before (read_answer_of one) Rest) same rest
folder_rises before (call.told answer) heard Rest is rest = cc
folder_rises before call.absent heard Rest is rest = let same : absent ≡ heard = cc in subst (λ (one : ReadResult). RiseFrom before (read_answer_of one) Rest) same rest
folder_rises before call.wrong_kind heard Rest is rest = let same : wrong_kind ≡ heard = cc in subst (λ (one : ReadResult). RiseFrom before (read_answer_of one) Rest) same rest
folder_rises before call.failed heard Rest is rest =
    let same : failed before (next_count before) ≡ heard = cc in
    subst (λ (one : ReadResult). RiseFrom before (read_answer_of one) Rest) same (omega arith, rose_by before, rest)
folder_rises before call.no_memory heard Rest is rest = cc

kind_rises : (kind : ReadKind) (before : ℕ) (answer : CallAnswer) (heard : ReadResult) (Rest : ℕ → Type 0) → kind_answered kind before (fault_behind before answer) answer ≡ Some heard
    → Rest (fault_behind before answer) → RiseFrom before (read_answer_of heard) Rest
kind_rises Manifest before answer heard Rest is rest = file_rises before answer heard Rest is rest
kind_rises Listing before answer heard Rest is rest = folder_rises before answer heard Rest is rest
kind_rises LicenseFile before answer heard Rest is rest = file_rises before answer heard Rest is rest

pub reads_rise : ReadsRise
reads_rise folder before [] are = omega arith
reads_rise folder before (read ∷ reads) are =
    let high = faults_after (fault_behind before read.answer) (calls_in folder reads) in
    let Rest = λ (from : ℕ). RiseInOrder from (records_of_reads reads) high in
    subst (λ (one : ReadAnswer). RiseFrom before one Rest) (sym are.0.tells)
    (kind_rises read.recorded.kind before read.answer are.0.heard Rest are.0.hears (reads_rise folder (fault_behind before read.answer) reads are.1))
