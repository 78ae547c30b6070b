use Rattle.std.proofs.Common.{inl}
use Rattle.std.proofs.lemmas.Result.{err_from_is_err_and}
use Rattle.run_found.specs.Written.{sink_seen}
use Rattle.run_command.specs.Carried.{plain_options}
use Rattle.run_command.specs.Given.{command_arguments_of}
use Rattle.run_bill.proofs.BillLemmas.{compared_by, file_counts}
use Rattle.run_bill.proofs.billing.compared_bill.Goals as goal

pub returns-in_err-bill-clause-compares : goal.returns-in_err-bill-clause-compares
returns-in_err-bill-clause-compares g c =
    let p = err_from_is_err_and c.from_residual.result c.from_residual.ensures.1 in
    rw (p.1, p.2) (inl c.in_err-bill.ensures.finds)

pub returns-clause-compares : goal.returns-clause-compares
returns-clause-compares g c =
    let log = c.args.log_ctx in
    let context = c.args.context.now in
    let err = sink_seen (g.S.Sink.written c.args.err.now) (g.S.Sink.written c.found_bill.new.err) (g.S.Sink.fault_count c.args.err.now) (g.S.Sink.fault_count c.found_bill.new.err) in
    compared_by (command_arguments_of (g.C.Catalog.lists c.args.catalog.now) (g.I.Identifier.match_of c.args.identifier.now) log context (plain_options log context)) c.args.words.now c.args.path.now
    (g.T.Tree.content c.args.tree.now) (g.T.Tree.content c.found_bill.new.tree) (g.T.Tree.content c.compare_file.new.tree)
    (g.T.Tree.fault_count c.args.tree.now) (g.T.Tree.fault_count c.found_bill.new.tree) (g.T.Tree.fault_count c.compare_file.new.tree)
    (g.T.Tree.trace c.args.tree.now) (g.T.Tree.trace c.found_bill.new.tree) (g.T.Tree.trace c.compare_file.new.tree) err
    c.in_ok-bill.bill c.in_ok-bill.ensures.finds c.compare_file.result c.compare_file.ensures

pub returns-clause-counts : goal.returns-clause-counts
returns-clause-counts g c = file_counts c.in_ok-bill.bill c.args.path.now _ c.compare_file.result c.compare_file.ensures _ _ _
