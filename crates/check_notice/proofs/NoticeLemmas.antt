-- From what was listed crate after crate to the notice.
use Rattle.std.proofs.Common.{◌≡◌, ◌∙◌, List, [], Option, Some, None, Result, Ok, Err, refl, sym, ap}
use Rattle.check_notice.specs.declared.notice.Notice.{Notice}
use Rattle.check_notice.specs.declared.notice.NoticeProgress.{NoticeProgress}
use Rattle.check_notice.specs.Notice.{IsNotice, MissingText, NoticedCrate, accepted_in, first_missing}
use Rattle.check_notice.specs.Sources.{TextSources}
use Rattle.check_notice.specs.Steps.{all_told_by, nothing_told}
use Rattle.check_notice.proofs.StepLemmas.{all_told, none_told, progress_with}

abbrev notice_in : NoticeProgress → Notice
notice_in progress = record { crates = progress.crates; texts = progress.numbers }

-- all crates were listed
pub notice_told : (by : TextSources) (crates : List NoticedCrate) (progress : NoticeProgress) → all_told_by by nothing_told crates ≡ Ok progress
    → IsNotice by crates (record { crates = progress.crates; texts = progress.numbers })
notice_told by crates progress is = step (first_missing by crates) refl
  where
    step : (missing : Option MissingText) → first_missing by crates ≡ missing → IsNotice by crates (notice_in progress)
    step (Some first) missing = let never : Ok progress ≡ Err first = sym is ∙ none_told by [] [] crates first missing in absurd (cc)
    step None whole =
        let same : Ok progress ≡ Ok (progress_with by [] [] (accepted_in crates)) = sym is ∙ all_told by [] [] crates whole in
        let one : progress ≡ progress_with by [] [] (accepted_in crates) = cc in
        record { whole = whole; is = ap notice_in one }

-- a text was missing
pub notice_missing : (by : TextSources) (crates : List NoticedCrate) (first : MissingText) → all_told_by by nothing_told crates ≡ Err first → first_missing by crates ≡ Some first
notice_missing by crates first is = step (first_missing by crates) refl
  where
    step : (missing : Option MissingText) → first_missing by crates ≡ missing → first_missing by crates ≡ Some first
    step None whole = let never : Ok (progress_with by [] [] (accepted_in crates)) ≡ Err first = sym (all_told by [] [] crates whole) ∙ is in absurd (cc)
    step (Some other) missing =
        let same : ◌≡◌ {A = Result NoticeProgress MissingText} (Err other) (Err first) = sym (none_told by [] [] crates other missing) ∙ is in
        let one : other ≡ first = cc in
        missing ∙ ap Some one
