-- A refused write, with the counts since the run began.
use Rattle.std.proofs.Common.{subst, sym}
use Rattle.tree_core.specs.Script.{SinkTexts}
use Rattle.diag_print.specs.declared.printer.PrintError.{PrintError}
use Rattle.diag_stats.specs.Summary.{HasCountBehind, IsCutShort, IsUnwritten, sink_counts, summary_of, summary_text, target_of}
use Rattle.deny_run.proofs.SummaryLemmas.{since_begun}
use Rattle.deny_run.proofs.summary.write_summary.Goals as goal

pub returns-in-Err-WriteFault-clause-err : goal.returns-in-Err-WriteFault-clause-err
returns-in-Err-WriteFault-clause-err g c =
    let log = c.args.log_ctx in
    let show = c.args.show_stats in
    let stats = c.args.report.now.stats in
    let old : SinkTexts = record { out = g.O.Sink.written c.args.out.now; err = g.E.Sink.written c.args.err.now } in
    let new : SinkTexts = record { out = g.O.Sink.written c.print_stats.new.out; err = g.E.Sink.written c.print_stats.new.err } in
    let out_before = g.O.Sink.fault_count c.args.out.now in
    let out_after = g.O.Sink.fault_count c.print_stats.new.out in
    let err_before = g.E.Sink.fault_count c.args.err.now in
    let err_after = g.E.Sink.fault_count c.print_stats.new.err in
    let short = subst (λ (refused : PrintError). IsUnwritten (sink_counts out_before out_after err_before err_after) old new (summary_of log.format log.log_level show stats) refused)
    c.in-Err-WriteFault.field-0-is c.in-Err-WriteFault.ensures.err in
    let behind = subst (λ (refused : PrintError). HasCountBehind (target_of log.format) out_after err_after refused) c.in-Err-WriteFault.field-0-is c.in-Err-WriteFault.ensures.behind in (
      subst (λ begun. IsCutShort (sink_counts out_before out_after c.args.begun err_after) begun c.in-Err-WriteFault.after old new (summary_of log.format log.log_level show stats)) (sym c.begun_of.ensures)
          (since_begun (target_of log.format) (summary_text log.format log.log_level show stats) out_before out_after c.args.begun err_before err_after c.in-Err-WriteFault.before c.in-Err-WriteFault.after
          old new c.requires short),
      behind,
    )
