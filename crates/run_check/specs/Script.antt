-- What a check writes to its sink.
use Rattle.std.specs.Prelude.{◌≡◌, ◌⊎◌, ℕ, List, ◌++◌, Result, Ok, Err}
use Rattle.tree_core.specs.Faults.{Rose, Gained}
use Rattle.tree_core.specs.texts.Cause.{Cause, no_memory, refused_write}
use Rattle.diag_print.specs.Findings.{printed_packs}
use Rattle.run_found.specs.declared.error.Error.{Error}
use Rattle.run_found.specs.Error.{cause_of}
use Rattle.run_found.specs.Hearing.{RequestHearing, TreeSeen}
use Rattle.run_found.specs.Written.{SinkSeen}
use Rattle.run_command.specs.Found.{IsHeard, load_heard}
use Rattle.run_command.specs.Given.{CommandArguments}
use Rattle.run_command.specs.Stops.{Stops}
use Rattle.run_check.specs.declared.report.Report.{Report}
use Rattle.run_check.specs.Report.{IsReport}

-- what is reported of a report's findings, in the format and at the level that are asked for
abbrev pub findings_text : CommandArguments → Report → List ℕ
findings_text given report = printed_packs given.request.log report.files report.findings

-- The report is the one that is asked for by what was read; all that is printed of the load was written, and behind it
-- this text.
pub record WritesBehind (given : CommandArguments) (tree : TreeSeen) (err : SinkSeen) (report : Report)
    (text : List ℕ) : Type 0 where
  pub hearing : RequestHearing
  pub heard : IsHeard given tree hearing
  pub is : IsReport given hearing report
  pub written : Gained err.old err.new (load_heard given hearing ++ text)

-- a report was found, of which nothing else is reported, and a prefix of its findings was written
pub record FrontsFindings (given : CommandArguments) (tree : TreeSeen) (err : SinkSeen) : Type 0 where
  pub report : Report
  pub front : List ℕ
  pub rest : List ℕ
  pub parts : findings_text given report ≡ front ++ rest
  pub writes : WritesBehind given tree err report front

-- so where memory was wanting, and where a write was refused, which has the sink's counts
abbrev pub CutsFindings : CommandArguments → TreeSeen → SinkSeen → Cause → Type 0
CutsFindings given tree err no_memory = FrontsFindings given tree err
CutsFindings given tree err (refused_write first last) =
    (first ≡ err.before) × (last ≡ err.after) × Rose err.before err.after × FrontsFindings given tree err
CutsFindings given tree err _ = ⊥

-- What a check on a tree wrote, all of whose request is carried: what is printed of the load, and then the findings of
-- the report that is answered; else it was refused before, or among the findings.
abbrev pub WritesCheck : CommandArguments → TreeSeen → SinkSeen → Result Report Error → Type 0
WritesCheck given tree err (Ok report) = WritesBehind given tree err report (findings_text given report)
WritesCheck given tree err (Err error) = Stops given tree err error ⊎ CutsFindings given tree err (cause_of error)
