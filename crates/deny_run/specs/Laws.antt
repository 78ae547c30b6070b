-- What the log level changes: which findings are written, and nothing of what is asked, read and reported, nor of the
-- status.
use Rattle.std.specs.Prelude.{◌≡◌, ℕ, All}
use Rattle.tree_core.specs.Content.{Content}
use Rattle.diag_core.specs.declared.severity.LevelFilter.{LevelFilter}
use Rattle.run_found.specs.Hearing.{TellsContent, TreeSeen}
use Rattle.run_found.specs.own_names.Given.{ListsGiven}
use Rattle.run_command.specs.Given.{CommandArguments, CommandRequest, command_by}
use Rattle.run_command.specs.Lawful.{CommandHearing, ComesBy, HasBegun, IsRunHeard, run_calls}
use Rattle.run_check.specs.declared.report.Report.{Report}
use Rattle.run_check.specs.Report.{IsReport}
use Rattle.deny_run.specs.declared.outcome.RunEnd.TheVariants.{Checked}
use Rattle.deny_run.specs.Run.{exit_status}

-- the same command at another level
abbrev pub command_at : LevelFilter → CommandArguments → CommandArguments
command_at level given =
    record given { request = record given.request { log = record given.request.log { log_level = level } } }

abbrev pub at_level : LevelFilter → CommandRequest → CommandRequest
at_level level given = record given { command = command_at level given.command }

-- what was read, and the report by that
pub record IsReported (given : CommandRequest) (hearing : CommandHearing) (had : ListsGiven)
    (report : Report) : Type 0 where
  pub comes : ComesBy given hearing had
  pub is : IsReport (command_by given.command had) hearing.found report

-- what is read of a content, where no call fails and no memory is wanting
pub record IsHeardOf (given : CommandRequest) (content : Content) (count : ℕ) (hearing : CommandHearing)
    (had : ListsGiven) : Type 0 where
  pub begun : HasBegun hearing count
  pub tells : All (TellsContent content) (run_calls given hearing had)

-- the calls of a run are those that are due at each level, and its report is the one that is asked for at each, with
-- its counts and so its status
abbrev pub LevelChangesNoReport : Type 0
LevelChangesNoReport =
    (given : CommandRequest) (level : LevelFilter) (tree : TreeSeen) (hearing : CommandHearing) (had : ListsGiven)
    (report : Report)
    → IsRunHeard given tree hearing had → IsReported given hearing had report
    → IsRunHeard (at_level level given) tree hearing had × IsReported (at_level level given) hearing had report

-- Two runs over equal content, where no call failed and no memory was wanting, that differ in the level of the log
-- alone and both end with a report have equal statuses.
abbrev pub LevelKeepsStatus : Type 0
LevelKeepsStatus =
    (given : CommandRequest) (level : LevelFilter) (content : Content) (count : ℕ)
    (one other : CommandHearing) (had own : ListsGiven) (report more : Report)
    → IsHeardOf given content count one had → IsReported given one had report
    → IsHeardOf (at_level level given) content count other own → IsReported (at_level level given) other own more
    → exit_status (Checked report) ≡ exit_status (Checked more)
