-- What a check writes, from what its sink gained.
use Rattle.std.proofs.Common.{inr, ℕ, List, Option, Err}
use Rattle.tree_core.specs.Faults.{Gained, GainedPrefix}
use Rattle.tree_core.proofs.GainedLemmas.{Gained-then}
use Rattle.diag_print.specs.declared.printer.PrintError.{PrintError}
use Rattle.diag_print.specs.declared.printer.PrintError.TheVariants as print
use Rattle.diag_print.specs.Findings.{HasReasonSince}
use Rattle.run_found.specs.Error.{error_of_print}
use Rattle.run_found.specs.Hearing.{TreeSeen}
use Rattle.run_found.specs.Written.{sink_seen}
use Rattle.run_command.specs.Found.{load_heard}
use Rattle.run_command.specs.Given.{CommandArguments}
use Rattle.run_command.specs.Settled.{HearsSo}
use Rattle.run_check.specs.declared.report.Report.{Report}
use Rattle.run_check.specs.Report.{IsReport}
use Rattle.run_check.specs.Script.{FrontsFindings, WritesBehind, WritesCheck, findings_text}

module _ (given : CommandArguments) (tree : TreeSeen) (old middle : Option (List ℕ)) (before first : ℕ) (report : Report)
    (hears : HearsSo given tree (sink_seen old middle before first) (λ hearing. IsReport given hearing report)) where
  -- a text behind what is printed of the load
  pub writes_behind : (text : List ℕ) (new : Option (List ℕ)) (after : ℕ) → Gained middle new text → WritesBehind given tree (sink_seen old new before after) report text
  writes_behind text new after gained = record {
    hearing = hears.hearing;
    heard = hears.heard;
    is = hears.is_so;
    written = Gained-then old middle new (load_heard given hears.hearing) text hears.written gained;
  }

  -- findings that were cut
  fronts : (new : Option (List ℕ)) (after : ℕ) → GainedPrefix middle new (findings_text given report) → FrontsFindings given tree (sink_seen old new before after)
  fronts new after cut = record {
    report = report;
    front = cut.front;
    rest = cut.rest;
    parts = cut.parts;
    writes = writes_behind cut.front new after cut.gained;
  }

  -- findings that were not all printed
  pub found_refused : (new : Option (List ℕ)) (after : ℕ) (refused : PrintError) → GainedPrefix middle new (findings_text given report) → HasReasonSince before after refused
      → WritesCheck given tree (sink_seen old new before after) (Err (error_of_print refused))
  found_refused new after print.Memory cut reason = inr (fronts new after cut)
  found_refused new after (print.WriteFault one other) cut reason = inr (reason.0, reason.1, reason.2, fronts new after cut)
