use Rattle.std.proofs.lemmas.Result.{err_from_is_err_and}
use Rattle.run_found.specs.Hearing.{tree_seen}
use Rattle.run_found.specs.Written.{sink_seen}
use Rattle.run_command.specs.Given.{command_arguments_of}
use Rattle.std.proofs.Common.{None}
use Rattle.run_check.specs.Given.{report_options}
use Rattle.run_check.proofs.ReportLemmas.{reports_of_judges}
use Rattle.run_check.proofs.command.report_since.Goals as goal

pub returns-in_err-judged-clause-reports : goal.returns-in_err-judged-clause-reports
returns-in_err-judged-clause-reports g c =
    let p = err_from_is_err_and c.from_residual.result c.from_residual.ensures.1 in
    rw (p.1, p.2) c.in_err-judged.ensures.judges

pub returns-clause-reports : goal.returns-clause-reports
returns-clause-reports g c =
    reports_of_judges
    (command_arguments_of (g.C.Catalog.lists c.args.catalog.now) (g.I.Identifier.match_of c.args.identifier.now) c.args.log_ctx c.args.context.now (report_options c.args.levels.now None))
    (tree_seen (g.T.Tree.content c.args.tree.now) (g.T.Tree.content c.judged_since.new.tree) (g.T.Tree.fault_count c.args.tree.now) (g.T.Tree.fault_count c.judged_since.new.tree)
    (g.T.Tree.trace c.args.tree.now) (g.T.Tree.trace c.judged_since.new.tree))
    (sink_seen (g.S.Sink.written c.args.err.now) (g.S.Sink.written c.judged_since.new.err) (g.S.Sink.fault_count c.args.err.now) (g.S.Sink.fault_count c.judged_since.new.err))
    c.in_ok-judged.judged c.in_ok-judged.ensures.judges
