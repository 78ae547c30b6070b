-- A check that is refused, and one that has its report: its summary was written, or not all of it.
use Rattle.std.proofs.Common.{refl, subst}
use Rattle.tree_core.specs.Script.{SinkTexts}
use Rattle.run_found.specs.Error.{cause_of}
use Rattle.run_found.specs.Written.{sink_seen}
use Rattle.diag_stats.specs.Summary.{summary_of, target_of}
use Rattle.deny_run.specs.Check.{CutsSummary, refused, reported}
use Rattle.deny_run.proofs.SummaryLemmas.{cut_from}
use Rattle.deny_run.proofs.check.check_by.Goals as goal

pub returns-in-Err-clause-checks : goal.returns-in-Err-clause-checks
returns-in-Err-clause-checks g c = refused c.in-Err.error c.in-Err.ensures.written refl refl

pub returns-in-Ok-write_summary-clause-checks : goal.returns-in-Ok-write_summary-clause-checks
returns-in-Ok-write_summary-clause-checks g c =
    reported c.in-Ok.report (g.E.Sink.written c.check_since.new.err) (g.E.Sink.fault_count c.check_since.new.err) c.in-Ok.ensures.later c.in-Ok-write_summary.ensures.err_later c.in-Ok.ensures.written (refl, c.in-Ok-write_summary.ensures.ok)

pub returns-in-Err-write_summary-clause-checks : goal.returns-in-Err-write_summary-clause-checks
returns-in-Err-write_summary-clause-checks g c =
    let log = c.args.request.now.log_ctx in
    let out = sink_seen (g.O.Sink.written c.args.out.now) (g.O.Sink.written c.write_summary.new.out) (g.O.Sink.fault_count c.args.out.now) (g.O.Sink.fault_count c.write_summary.new.out) in
    let held = g.E.Sink.written c.args.err.now in
    let mid = g.E.Sink.written c.check_since.new.err in
    let new = g.E.Sink.written c.write_summary.new.err in
    let after = g.E.Sink.fault_count c.write_summary.new.err in
    let old : SinkTexts = record { out = out.old; err = mid } in
    let target = target_of log.format in
    let script = summary_of log.format log.log_level c.args.args.now.show_stats c.in-Ok.report.stats in
    let cause = cause_of c.in-Err-write_summary.error in
    let cut = subst (λ begun. CutsSummary target out (sink_seen mid new begun after) old script cause) c.faults-begun.ensures c.in-Err-write_summary.ensures.err in
    reported c.in-Ok.report mid (g.E.Sink.fault_count c.check_since.new.err) c.in-Ok.ensures.later c.in-Err-write_summary.ensures.err_later c.in-Ok.ensures.written
    (cut_from target out held mid new (g.E.Sink.fault_count c.args.err.now) after old script cause cut)
