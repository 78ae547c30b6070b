-- The calls of looks and of reads, by what they were answered.
use Rattle.std.proofs.Common.{◌≡◌, ◌∙◌, inl, inr, refl, sym, ap, ℕ, true, false, List, [], ◌∷◌, ◌++◌, append-nil, append_assoc, Option, Some, None, Result, Err}
use Rattle.std.specs.Prelude.{unwrap_or}
use Rattle.tree_core.specs.Call as call
use Rattle.tree_core.specs.Call.{CallAnswer, Call}
use Rattle.tree_core.specs.Trace.{faults_after}
use Rattle.tree_core.specs.texts.Heard.{text_answered}
use Rattle.tree_core.specs.declared.texts.fault.ReadFault.{ReadFault}
use Rattle.tree_core.specs.declared.texts.fault.ReadFault.TheVariants.{Absent}
use Rattle.tree_core.specs.texts.Looked.{FindsByLooks, LookedUntil, look_of, absent_looks}
use Rattle.tree_core.specs.declared.texts.search.SearchError.TheVariants as search
use Rattle.run_found.specs.Hearing.{LooksResult, look_failed, nowhere, at, IsReadWhereDue, count_behind, is_heard, look_calls, looks_by, read_calls, text_by}

-- ---- looks

-- what looks were reported at which nothing is there
missed : List (List ℕ) → List CallAnswer
missed [] = []
missed (path ∷ paths) = call.told false ∷ missed paths

all_missed : (paths : List (List ℕ)) → looks_by paths (missed paths) ≡ nowhere
unfolding missed
all_missed [] = refl
all_missed (path ∷ paths) = all_missed paths

all_calls : (paths : List (List ℕ)) → look_calls paths (missed paths) ≡ absent_looks paths
unfolding missed
all_calls [] = refl
all_calls (path ∷ paths) = ap (λ more. look_of path (call.told false) ∷ more) (all_calls paths)

-- behind those at which nothing is there, the next looks
front_missed : (before rest : List (List ℕ)) (more : List CallAnswer) → looks_by (before ++ rest) (missed before ++ more) ≡ looks_by rest more
unfolding missed
front_missed [] rest more = refl
front_missed (path ∷ before) rest more = front_missed before rest more

front_calls : (before rest : List (List ℕ)) (more : List CallAnswer) → look_calls (before ++ rest) (missed before ++ more) ≡ absent_looks before ++ look_calls rest more
unfolding missed
front_calls [] rest more = refl
front_calls (path ∷ before) rest more = ap (λ own. look_of path (call.told false) ∷ own) (front_calls before rest more)

pub no_looks : (paths : List (List ℕ)) → look_calls paths [] ≡ []
no_looks [] = refl
no_looks (path ∷ paths) = refl

-- looks were made, and their calls are these
pub record LooksMade (paths : List (List ℕ)) (old new : List Call) : Type 0 where
  pub looks : List CallAnswer
  pub made : new ≡ old ++ look_calls paths looks

-- looks were made, and they came to this
pub record LooksAre (paths : List (List ℕ)) (came : LooksResult) (old new : List Call) : Type 0 where
  pub looks : List CallAnswer
  pub made : new ≡ old ++ look_calls paths looks
  pub by : looks_by paths looks ≡ came

abbrev pub looks_found : Option (List ℕ) → LooksResult
looks_found None = nowhere
looks_found (Some path) = at path

-- the calls up to a look that was reported otherwise than that nothing is there
last_calls : (before : List (List ℕ)) (path : List ℕ) (rest paths : List (List ℕ)) (answer : CallAnswer) (old new : List Call) → paths ≡ before ++ path ∷ rest
    → look_calls (path ∷ rest) (answer ∷ []) ≡ look_of path answer ∷ [] → new ≡ old ++ absent_looks before ++ look_of path answer ∷ []
    → new ≡ old ++ look_calls paths (missed before ++ answer ∷ [])
last_calls before path rest paths answer old new parts one made =
    made ∙ append_assoc old (absent_looks before) (look_of path answer ∷ [])
    ∙ ap (λ calls. old ++ calls) (ap (λ own. absent_looks before ++ own) (sym one) ∙ sym (front_calls before (path ∷ rest) (answer ∷ [])) ∙ ap (λ own. look_calls own (missed before ++ answer ∷ [])) (sym parts))

last_by : (before : List (List ℕ)) (path : List ℕ) (rest paths : List (List ℕ)) (answer : CallAnswer) (came : LooksResult) → paths ≡ before ++ path ∷ rest
    → looks_by (path ∷ rest) (answer ∷ []) ≡ came → looks_by paths (missed before ++ answer ∷ []) ≡ came
last_by before path rest paths answer came parts one =
    ap (λ own. looks_by own (missed before ++ answer ∷ [])) parts ∙ front_missed before (path ∷ rest) (answer ∷ []) ∙ one

pub looked_are : (paths : List (List ℕ)) (old new : List Call) (found : Option (List ℕ)) → FindsByLooks paths old new found → LooksAre paths (looks_found found) old new
looked_are paths old new None looked =
    record { looks = missed paths; made = looked ∙ ap (λ calls. old ++ calls) (sym (all_calls paths)); by = all_missed paths }
looked_are paths old new (Some found) hit = record {
  looks = missed hit.before ++ call.told true ∷ [];
  made = last_calls hit.before found hit.rest paths (call.told true) old new hit.parts refl hit.made;
  by = last_by hit.before found hit.rest paths (call.told true) (at found) hit.parts refl;
}

pub failed_are : (paths : List (List ℕ)) (old new : List Call) (first last : ℕ) → LookedUntil paths old new (search.Failed first last) → LooksAre paths look_failed old new
failed_are paths old new first last until = record {
  looks = missed until.before ++ call.failed ∷ [];
  made = last_calls until.before until.last until.rest paths call.failed old new until.parts refl until.made;
  by = last_by until.before until.last until.rest paths call.failed look_failed until.parts refl;
}

pub lost_made : (paths : List (List ℕ)) (old new : List Call) → LookedUntil paths old new search.Memory → LooksMade paths old new
lost_made paths old new (inl front) = record {
  looks = missed front.before ++ [];
  made =
      front.made ∙ ap (λ calls. old ++ calls)
      (sym (append-nil (absent_looks front.before)) ∙ ap (λ own. absent_looks front.before ++ own) (sym (no_looks front.rest)) ∙ sym (front_calls front.before front.rest [])
      ∙ ap (λ own. look_calls own (missed front.before ++ [])) (sym front.parts));
}
lost_made paths old new (inr until) = record {
  looks = missed until.before ++ call.no_memory ∷ [];
  made = last_calls until.before until.last until.rest paths call.no_memory old new until.parts refl until.made;
}

-- ---- reads

pub no_read : (due : Option (List ℕ)) → read_calls due None ≡ []
no_read None = refl
no_read (Some path) = refl

-- what an answer says, whatever the counts are, if it is read between some
pub heard_where : (answer : CallAnswer) (begun after : ℕ) (heard : Result (List ℕ) ReadFault) → text_answered begun after answer ≡ Some heard → is_heard (Some answer) ≡ true
heard_where (call.bytes items) begun after heard is = refl
heard_where (call.entries items) begun after heard is = absurd (cc)
heard_where (call.told answer) begun after heard is = absurd (cc)
heard_where call.absent begun after heard is = refl
heard_where call.wrong_kind begun after heard is = refl
heard_where call.failed begun after heard is = refl
heard_where call.no_memory begun after heard is = absurd (cc)

pub text_heard_by : (answer : CallAnswer) (begun after : ℕ) (heard : Result (List ℕ) ReadFault) → text_answered begun after answer ≡ Some heard → text_by begun after (Some answer) ≡ heard
text_heard_by answer begun after heard is = ap (λ own. unwrap_or own (Err Absent)) is

-- the count behind a read that was made where it was due
pub counts_due : (due : Option (List ℕ)) (answer : Option CallAnswer) (count : ℕ) → IsReadWhereDue due answer → faults_after count (read_calls due answer) ≡ count_behind count answer
counts_due None answer count is = ap (count_behind count) (sym is)
counts_due (Some path) (Some answer) count is = refl
counts_due (Some path) None count is = absurd (cc)
