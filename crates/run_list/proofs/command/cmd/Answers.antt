-- A request of which a part is not carried, and every other one.
use Rattle.std.proofs.Common.{◌∙◌, sym}
use Rattle.run_found.specs.Hearing.{tree_seen}
use Rattle.run_found.specs.Written.{sink_seen}
use Rattle.run_list.specs.Given.{list_arguments_of}
use Rattle.run_list.proofs.CommandLemmas.{carried_run, unsupported_run}
use Rattle.run_list.proofs.command.cmd.Goals as goal

pub returns-in-Some : goal.returns-in-Some
returns-in-Some g c =
    let given = list_arguments_of (g.C.Catalog.lists c.args.catalog.now) (g.I.Identifier.match_of c.args.identifier.now) c.args.log_ctx c.args.args c.args.krate_ctx in
    unsupported_run given (g.T.Tree.content c.args.tree.now) (g.T.Tree.fault_count c.args.tree.now) (g.T.Tree.trace c.args.tree.now) (g.S.Sink.written c.args.err.now) (g.S.Sink.fault_count c.args.err.now)
    (g.O.Sink.written c.args.out.now) (g.O.Sink.fault_count c.args.out.now) c.in-Some.what (sym c.unsupported_in.ensures ∙ c.in-Some.is)

pub returns : goal.returns
returns g c =
    let given = list_arguments_of (g.C.Catalog.lists c.args.catalog.now) (g.I.Identifier.match_of c.args.identifier.now) c.args.log_ctx c.args.args c.args.krate_ctx in
    let tree = tree_seen (g.T.Tree.content c.args.tree.now) (g.T.Tree.content c.list_since.new.tree) (g.T.Tree.fault_count c.args.tree.now) (g.T.Tree.fault_count c.list_since.new.tree)
    (g.T.Tree.trace c.args.tree.now) (g.T.Tree.trace c.list_since.new.tree) in
    let err = sink_seen (g.S.Sink.written c.args.err.now) (g.S.Sink.written c.list_since.new.err) (g.S.Sink.fault_count c.args.err.now) (g.S.Sink.fault_count c.list_since.new.err) in
    let out = sink_seen (g.O.Sink.written c.args.out.now) (g.O.Sink.written c.list_since.new.out) (g.O.Sink.fault_count c.args.out.now) (g.O.Sink.fault_count c.list_since.new.out) in
    carried_run given tree err out c.list_since.result c.list_since.ensures.lists (sym c.unsupported_in.ensures ∙ c.in-None.is) c.list_since.ensures.counts c.list_since.ensures.later c.list_since.ensures.out_later
