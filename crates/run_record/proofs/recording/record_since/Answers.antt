use Rattle.std.proofs.Common.{inl, refl, subst, Ok, Err}
use Rattle.std.proofs.lemmas.Result.{err_from_is_err_and}
use Rattle.run_found.specs.Hearing.{tree_seen}
use Rattle.run_found.specs.Written.{sink_seen}
use Rattle.run_command.specs.Carried.{plain_options}
use Rattle.run_command.specs.Given.{command_arguments_of}
use Rattle.run_command.proofs.CarriedLemmas.{plain_carried, plain_use}
use Rattle.run_check.specs.Report.{Reports}
use Rattle.run_record.proofs.RecordLemmas.{are_judged, memory_silent, report_counts, report_ends}
use Rattle.run_record.proofs.recording.record_since.Goals as goal

pub report_since-requires : goal.report_since-requires
report_since-requires g c = plain_carried c.args.log_ctx c.args.context.now c.requires

pub record_report-requires : goal.record_report-requires
record_report-requires g c = are_judged _ c.in_ok-report.ensures.reports.hearing c.in_ok-report.report c.in_ok-report.ensures.reports.is_so

pub returns-in_err-report-clause-records : goal.returns-in_err-report-clause-records
returns-in_err-report-clause-records g c =
    let lists = g.C.Catalog.lists c.args.catalog.now in
    let match_of = g.I.Identifier.match_of c.args.identifier.now in
    let log = c.args.log_ctx in
    let context = c.args.context.now in
    let tree = tree_seen (g.T.Tree.content c.args.tree.now) (g.T.Tree.content c.report_since.new.tree) (g.T.Tree.fault_count c.args.tree.now) (g.T.Tree.fault_count c.report_since.new.tree)
    (g.T.Tree.trace c.args.tree.now) (g.T.Tree.trace c.report_since.new.tree) in
    let err = sink_seen (g.S.Sink.written c.args.err.now) (g.S.Sink.written c.report_since.new.err) (g.S.Sink.fault_count c.args.err.now) (g.S.Sink.fault_count c.report_since.new.err) in
    let p = err_from_is_err_and c.from_residual.result c.from_residual.ensures.1 in
    rw (p.1, p.2)
    (inl (
      subst (λ options. Reports (command_arguments_of lists match_of log context options) tree err (Err c.in_err-report.field-0.0)) (plain_use log context _ c.no_levels-levels.ensures c.requires)
          c.in_err-report.ensures.reports,
      refl,
    ))

pub returns-clause-records : goal.returns-clause-records
returns-clause-records g c =
    let lists = g.C.Catalog.lists c.args.catalog.now in
    let match_of = g.I.Identifier.match_of c.args.identifier.now in
    let log = c.args.log_ctx in
    let context = c.args.context.now in
    let report = c.in_ok-report.report in
    let tree = tree_seen (g.T.Tree.content c.args.tree.now) (g.T.Tree.content c.report_since.new.tree) (g.T.Tree.fault_count c.args.tree.now) (g.T.Tree.fault_count c.report_since.new.tree)
    (g.T.Tree.trace c.args.tree.now) (g.T.Tree.trace c.report_since.new.tree) in
    let err = sink_seen (g.S.Sink.written c.args.err.now) (g.S.Sink.written c.report_since.new.err) (g.S.Sink.fault_count c.args.err.now) (g.S.Sink.fault_count c.report_since.new.err) in
    let out = sink_seen (g.O.Sink.written c.args.out.now) (g.O.Sink.written c.record_report.new.out) (g.O.Sink.fault_count c.args.out.now) (g.O.Sink.fault_count c.record_report.new.out) in
    let hears = subst (λ options. Reports (command_arguments_of lists match_of log context options) tree err (Ok report)) (plain_use log context _ c.no_levels-levels.ensures c.requires)
    c.in_ok-report.ensures.reports in
    report_ends (command_arguments_of lists match_of log context (plain_options log context)) tree err out report hears c.record_report.result c.record_report.ensures.records

pub returns-clause-silent : goal.returns-clause-silent
returns-clause-silent g c is = memory_silent c.in_ok-report.report _ c.record_report.result c.record_report.ensures.records is

pub returns-clause-counts : goal.returns-clause-counts
returns-clause-counts g c = report_counts c.in_ok-report.report _ c.record_report.result c.record_report.ensures.records _ _ _
