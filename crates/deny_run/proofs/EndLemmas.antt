-- How a run ends, by what a command answers.
use Rattle.std.proofs.Common.{◌≡◌, ◌∙◌, ◌⊎◌, inl, inr, refl, sym, ap, subst, ℕ, List, Result, Ok, Err, IfErr, IfOk}
use Rattle.std.specs.Prelude.{⊤, IsOkAnd, MatchResult}
use Rattle.tree_core.specs.declared.texts.fault.ReadFault.TheVariants.{Absent}
use Rattle.spdx_terms.specs.catalog.Catalog.{CatalogLists}
use Rattle.spdx_terms.specs.declared.catalog.identifier.Match.{Match}
use Rattle.run_found.specs.declared.error.Error.{Error}
use Rattle.run_found.specs.declared.error.Error.TheVariants.{ConfigRead}
use Rattle.run_found.specs.Error.{cause_of}
use Rattle.run_found.specs.Written.{SinkSeen}
use Rattle.run_sample.specs.Sample.{IsSampleComplete, IsSampled, IsUnfailed, IsWholeSample, WritesLines}
use Rattle.deny_run.specs.declared.outcome.RunEnd.{RunEnd}
use Rattle.deny_run.specs.declared.outcome.RunEnd.TheVariants.{Checked, Listed, Sampled, Recorded, Verified, Billed, Noticed, Told, Shown, Usage, Refused}
use Rattle.run_check.specs.Report.{LabelsLie}
use Rattle.run_check.specs.declared.report.Report.{Report}
use Rattle.deny_run.specs.Complete.{EndsAs}
use Rattle.deny_run.specs.Ends.{HasLabels, as_end, end_of}
use Rattle.deny_run.specs.Sample.{Samples}
use Rattle.deny_run.specs.Seen.{IsStill}

-- a value, or a refusal that may be
abbrev pub EndsBy : {X : Type 0} → (Error → Type 0) → Result X Error → Type 0
EndsBy {X} MayRefuse (Ok value) = ⊤
EndsBy {X} MayRefuse (Err error) = MayRefuse error

pub ends_as : {X : Type 0} (end_by : X → RunEnd) (MayRefuse : Error → Type 0) (value : Result X Error) → EndsBy MayRefuse value → EndsAs end_by MayRefuse (end_of (as_end end_by value))
ends_as {X} end_by MayRefuse (Ok value) ends = inl (value, refl)
ends_as {X} end_by MayRefuse (Err error) ends = inr (error, refl, ends)

-- no command ends with a refusal but by one, where its values end otherwise
abbrev pub IsNoRefusal : {X : Type 0} → (X → RunEnd) → Type 0
IsNoRefusal {X} end_by = (value : X) (error : Error) → end_by value ≡ Refused error → ⊥

pub checked_apart : IsNoRefusal Checked
checked_apart value error e = absurd (cc)

pub listed_apart : IsNoRefusal Listed
listed_apart value error e = absurd (cc)

pub sampled_apart : IsNoRefusal Sampled
sampled_apart value error e = absurd (cc)

pub recorded_apart : IsNoRefusal Recorded
recorded_apart value error e = absurd (cc)

pub verified_apart : IsNoRefusal Verified
verified_apart value error e = absurd (cc)

pub billed_apart : IsNoRefusal Billed
billed_apart value error e = absurd (cc)

pub noticed_apart : IsNoRefusal Noticed
noticed_apart value error e = absurd (cc)

pub told_apart : IsNoRefusal Told
told_apart value error e = absurd (cc)

same_refusal : {error own : Error} → Refused own ≡ Refused error → own ≡ error
same_refusal e = cc

pub refused_as : {X : Type 0} (end_by : X → RunEnd) → IsNoRefusal end_by → (value : Result X Error) (error : Error) → end_of (as_end end_by value) ≡ Refused error → value ≡ Err error
refused_as {X} end_by apart (Ok value) error e = absurd (apart value error e)
refused_as {X} end_by apart (Err own) error e = with_same (same_refusal e)
  where
    with_same : own ≡ error → ◌≡◌ {A = Result X Error} (Err own) (Err error)
    with_same is = cc

-- and so back
pub refused_end : {X : Type 0} (end_by : X → RunEnd) (value : Result X Error) (error : Error) → value ≡ Err error → end_of (as_end end_by value) ≡ Refused error
refused_end {X} end_by value error is = ap (λ own. end_of (as_end end_by own)) is

-- a report is that of a check
pub checked_as : (value : Result Report Error) (report : Report) → end_of (as_end Checked value) ≡ Checked report → value ≡ Ok report
checked_as (Ok own) report e = with_same (same_report e)
  where
    same_report : Checked own ≡ Checked report → own ≡ report
    same_report same = cc

    with_same : own ≡ report → ◌≡◌ {A = Result Report Error} (Ok own) (Ok report)
    with_same is = cc
checked_as (Err error) report e = absurd (cc)

abbrev pub IsNoCheck : {X : Type 0} → (X → RunEnd) → Type 0
IsNoCheck {X} end_by = (value : X) (report : Report) → end_by value ≡ Checked report → ⊥

pub listed_other : IsNoCheck Listed
listed_other value report e = absurd (cc)

pub sampled_other : IsNoCheck Sampled
sampled_other value report e = absurd (cc)

pub recorded_other : IsNoCheck Recorded
recorded_other value report e = absurd (cc)

pub verified_other : IsNoCheck Verified
verified_other value report e = absurd (cc)

pub billed_other : IsNoCheck Billed
billed_other value report e = absurd (cc)

pub noticed_other : IsNoCheck Noticed
noticed_other value report e = absurd (cc)

pub told_other : IsNoCheck Told
told_other value report e = absurd (cc)

pub unchecked : {X : Type 0} (end_by : X → RunEnd) → IsNoCheck end_by → (value : Result X Error) (report : Report) → end_of (as_end end_by value) ≡ Checked report → ⊥
unchecked {X} end_by apart (Ok value) report e = apart value report e
unchecked {X} end_by apart (Err error) report e = absurd (cc)

-- ---- an answer

-- a refusal ends so
pub answer_refused : (answer : Result RunEnd Error) (error : Error) → ((ended : RunEnd) → answer ≡ Ok ended → ended ≡ Refused error → ⊥) → end_of answer ≡ Refused error → answer ≡ Err error
answer_refused (Ok ended) error apart e = absurd (apart ended refl e)
answer_refused (Err own) error apart e = with_same (same_refusal e)
  where
    with_same : own ≡ error → ◌≡◌ {A = Result RunEnd Error} (Err own) (Err error)
    with_same is = cc

pub labels_end : (answer : Result RunEnd Error) → IfOk answer HasLabels → HasLabels (end_of answer)
labels_end (Ok ended) labels = labels
labels_end (Err error) labels = tt

-- ---- mapped

-- what a value is mapped to by the end of its command is that end of it
pub mapped : {X : Type 0} (end_by : X → RunEnd) (value : Result X Error) (answer : Result RunEnd Error)
    → MatchResult value (λ x. IsOkAnd answer (λ ended. ended ≡ end_by x)) (λ error. answer ≡ Err error) → answer ≡ as_end end_by value
mapped {X} end_by (Ok x) (Ok ended) is = ap Ok is
mapped {X} end_by (Ok x) (Err error) is = absurd is
mapped {X} end_by (Err error) answer is = is

pub has_labels : (value : Result Report Error) → LabelsLie value → IfOk (as_end Checked value) HasLabels
has_labels (Ok report) lie = lie
has_labels (Err error) lie = tt

-- what a sample is answered, by what is promised of it
pub samples : (size : ℕ) (lists : CatalogLists) (match_of : List ℕ → Match) (out err : SinkSeen) (value : Result Report Error)
    → IfOk value (IsSampled size lists match_of) → WritesLines size lists match_of out.old out.new out.before out.after value
    → (◌≡◌ {A = Result Report Error} value (Err (ConfigRead Absent)) → ⊥) → IfErr value (λ error. IsUnfailed (cause_of error))
    → IsSampleComplete size lists match_of value → IsWholeSample size lists value → IsStill err → Samples size lists match_of out err value
samples size lists match_of out err (Ok report) is lines there unfailed complete whole still = record { is = is; lines = lines; still = still }
samples size lists match_of out err (Err error) is lines there unfailed complete whole still = record {
  lines = lines;
  unfailed = unfailed;
  complete = complete;
  built_in = whole;
  there = λ e. there (as_value e);
  still = still;
}
  where
    as_value : error ≡ ConfigRead Absent → ◌≡◌ {A = Result Report Error} (Err error) (Err (ConfigRead Absent))
    as_value e = cc
