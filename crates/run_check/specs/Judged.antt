-- The crates of a check beside the report on them.
use Rattle.std.specs.Prelude.{◌≡◌, List, Result, IfOk, All}
use Rattle.graph_core.specs.Krate.{CrateRecord}
use Rattle.graph_core.specs.selection.Listed.{selected_in}
use Rattle.gather_core.specs.Gathered.{include_of}
use Rattle.check_core.specs.Labels.{PackLies}
use Rattle.run_found.specs.declared.error.Error.{Error}
use Rattle.run_found.specs.Hearing.{RequestHearing, TreeSeen, crates_heard}
use Rattle.run_found.specs.Written.{SinkSeen}
use Rattle.run_command.specs.Given.{CommandArguments}
use Rattle.run_command.specs.Settled.{AnswersSo}
use Rattle.run_check.specs.declared.judged.JudgedCrates.{JudgedCrates}
use Rattle.run_check.specs.Report.{IsReport}

-- those of the crates that the policy of the report has checked
abbrev pub crates_judged : JudgedCrates → List CrateRecord
crates_judged judged = selected_in (include_of judged.report.policy) judged.krates

-- The report is the one that is asked for by what was read, and the crates beside it that were checked are those that
-- are asked for: the report has one verdict on each, in the same order.
pub record IsJudged (given : CommandArguments) (hearing : RequestHearing) (judged : JudgedCrates) : Type 0 where
  pub report : IsReport given hearing judged.report
  pub crates : crates_judged judged ≡ crates_heard hearing

-- so it is, or the check was refused before
abbrev pub Judges : CommandArguments → TreeSeen → SinkSeen → Result JudgedCrates Error → Type 0
Judges given tree err result = AnswersSo given tree err (λ judged hearing. IsJudged given hearing judged) result

-- each label of each finding lies in the text of its file, between characters
abbrev pub JudgedLabelsLie : Result JudgedCrates Error → Type 0
JudgedLabelsLie answer =
    IfOk answer (λ judged. All (PackLies judged.report.files) judged.report.findings)
