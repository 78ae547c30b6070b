use Rattle.std.proofs.Common.{inl, refl}
use Rattle.std.proofs.lemmas.Result.{err_from_is_err_and}
use Rattle.run_found.specs.Hearing.{tree_seen}
use Rattle.run_found.specs.Written.{sink_seen}
use Rattle.run_command.specs.Carried.{plain_options}
use Rattle.run_command.specs.Given.{command_arguments_of}
use Rattle.run_bill.proofs.BillLemmas.{put_counts, written_by}
use Rattle.run_bill.proofs.billing.written_bill.Goals as goal

pub returns-in_err-made-clause-writes : goal.returns-in_err-made-clause-writes
returns-in_err-made-clause-writes g c =
    let p = err_from_is_err_and c.from_residual.result c.from_residual.ensures.1 in
    rw (p.1, p.2) (inl (c.in_err-made.ensures.finds, refl {a = g.O.Sink.written c.args.out.now}))

pub returns-clause-writes : goal.returns-clause-writes
returns-clause-writes g c =
    let log = c.args.log_ctx in
    let context = c.args.context.now in
    let tree = tree_seen (g.T.Tree.content c.args.tree.now) (g.T.Tree.content c.found_bill.new.tree) (g.T.Tree.fault_count c.args.tree.now) (g.T.Tree.fault_count c.found_bill.new.tree)
    (g.T.Tree.trace c.args.tree.now) (g.T.Tree.trace c.found_bill.new.tree) in
    let err = sink_seen (g.S.Sink.written c.args.err.now) (g.S.Sink.written c.found_bill.new.err) (g.S.Sink.fault_count c.args.err.now) (g.S.Sink.fault_count c.found_bill.new.err) in
    let out = sink_seen (g.O.Sink.written c.args.out.now) (g.O.Sink.written c.put_bill.new.out) (g.O.Sink.fault_count c.args.out.now) (g.O.Sink.fault_count c.put_bill.new.out) in
    written_by (command_arguments_of (g.C.Catalog.lists c.args.catalog.now) (g.I.Identifier.match_of c.args.identifier.now) log context (plain_options log context)) c.args.words.now tree err out
    c.in_ok-made.made c.in_ok-made.ensures.finds c.put_bill.result c.put_bill.ensures.puts

pub returns-clause-counts : goal.returns-clause-counts
returns-clause-counts g c = put_counts c.in_ok-made.made _ c.put_bill.result c.put_bill.ensures.puts _ _ _
