-- What a check answers, and what it writes to two sinks.
use Rattle.std.specs.Prelude.{◌≡◌, ◌≤◌, ℕ, Bool, List, [], Option, Result, Ok, Err}
use Rattle.tree_core.specs.Script.{FaultCounts, Gains, OutputSink, Script, SinkTexts, to_err, to_out}
use Rattle.tree_core.specs.texts.Cause.{Cause, no_memory, refused_write}
use Rattle.diag_print.specs.declared.context.LogContext.{LogContext}
use Rattle.diag_stats.specs.Summary.{IsCutShort, count_of, summary_of, target_of}
use Rattle.run_found.specs.declared.error.Error.{Error}
use Rattle.run_found.specs.Error.{cause_of}
use Rattle.run_found.specs.Hearing.{TreeSeen}
use Rattle.run_found.specs.Written.{IsSilent, SinkSeen}
use Rattle.run_command.specs.Given.{CommandArguments}
use Rattle.run_check.specs.declared.report.Report.{Report}
use Rattle.run_check.specs.Script.{WritesCheck}
use Rattle.deny_run.specs.Seen.{sink_to}

-- what is written to two sinks before and behind
abbrev pub texts_before : SinkSeen → SinkSeen → SinkTexts
texts_before out err = record { out = out.old; err = err.old }

abbrev pub texts_behind : SinkSeen → SinkSeen → SinkTexts
texts_behind out err = record { out = out.new; err = err.new }

-- their counts, where no tree is asked
abbrev pub sink_faults : SinkSeen → SinkSeen → FaultCounts
sink_faults out err = record {
  tree_before = 0;
  tree_after = 0;
  out_before = out.before;
  out_after = out.after;
  err_before = err.before;
  err_after = err.after;
}

-- where a summary was not all written: its sink refused a write, between the counts of that sink when the run began and
-- behind the write, and a prefix of it was written; or memory was wanting, before which nothing was
abbrev pub CutsSummary : OutputSink → SinkSeen → SinkSeen → SinkTexts → Script → Cause → Type 0
CutsSummary target out err old script no_memory = Gains old (texts_behind out err) []
CutsSummary target out err old script (refused_write before after) =
    IsCutShort (sink_faults out err) before after old (texts_behind out err) script
    × (after ≡ count_of target out.after err.after)
CutsSummary target out err old script _ = ⊥

-- the summary of a report, on its sink, where so much was written to `err` before
abbrev pub WritesSummary : LogContext → Bool → Report → SinkSeen → SinkSeen → Option (List ℕ) → Result Report Error
    → Type 0
WritesSummary log show report out err written (Ok own) =
    (own ≡ report)
    × Gains (record { out = out.old; err = written }) (texts_behind out err)
    (summary_of log.format log.log_level show report.stats)
WritesSummary log show report out err written (Err error) =
    CutsSummary (target_of log.format) out err (record { out = out.old; err = written })
    (summary_of log.format log.log_level show report.stats) (cause_of error)

-- The check is refused before a summary, and nothing is on `out`; or it has a report, what it found was written, and
-- then its summary, in the format and at the level that are asked for.
pub data Checks (show : Bool) (out err : SinkSeen) (given : CommandArguments) (tree : TreeSeen)
    (answer : Result Report Error) : Type 0 where
  refused : (error : Error) → WritesCheck given tree err (Err error) → IsSilent out → answer ≡ Err error
      → Checks show out err given tree answer
  reported : (report : Report) (written : Option (List ℕ)) (count : ℕ) → err.before ≤ count → count ≤ err.after
      → WritesCheck given tree (sink_to err written count) (Ok report)
      → WritesSummary given.request.log show report out err written answer → Checks show out err given tree answer
