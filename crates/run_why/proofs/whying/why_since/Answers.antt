use Rattle.std.proofs.Common.{inl, refl}
use Rattle.std.proofs.lemmas.Result.{err_from_is_err_and}
use Rattle.run_found.specs.Hearing.{tree_seen}
use Rattle.run_found.specs.Written.{sink_seen}
use Rattle.run_why.specs.Given.{why_arguments_of}
use Rattle.run_why.proofs.WhyLemmas.{put_counts, written_by}
use Rattle.run_why.proofs.whying.why_since.Goals as goal

pub returns-in_err-found-clause-tells : goal.returns-in_err-found-clause-tells
returns-in_err-found-clause-tells g c =
    let p = err_from_is_err_and c.from_residual.result c.from_residual.ensures.1 in
    rw (p.1, p.2) (inl (c.in_err-found.ensures.finds, refl {a = g.O.Sink.written c.args.out.now}))

pub returns-clause-tells : goal.returns-clause-tells
returns-clause-tells g c =
    let tree = tree_seen (g.T.Tree.content c.args.tree.now) (g.T.Tree.content c.found_why.new.tree) (g.T.Tree.fault_count c.args.tree.now) (g.T.Tree.fault_count c.found_why.new.tree)
    (g.T.Tree.trace c.args.tree.now) (g.T.Tree.trace c.found_why.new.tree) in
    let err = sink_seen (g.S.Sink.written c.args.err.now) (g.S.Sink.written c.found_why.new.err) (g.S.Sink.fault_count c.args.err.now) (g.S.Sink.fault_count c.found_why.new.err) in
    let out = sink_seen (g.O.Sink.written c.args.out.now) (g.O.Sink.written c.put_why.new.out) (g.O.Sink.fault_count c.args.out.now) (g.O.Sink.fault_count c.put_why.new.out) in
    written_by (why_arguments_of (g.C.Catalog.lists c.args.catalog.now) (g.I.Identifier.match_of c.args.identifier.now) c.args.log_ctx c.args.context.now c.args.words.now) tree err out
    c.in_ok-found.found c.in_ok-found.ensures.finds c.put_why.result c.put_why.ensures.puts

pub returns-clause-counts : goal.returns-clause-counts
returns-clause-counts g c = put_counts c.in_ok-found.found _ c.put_why.result c.put_why.ensures.puts _ _ _
