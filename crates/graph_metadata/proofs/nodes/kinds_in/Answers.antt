-- One kind more, the first fault, and the end.
use Rattle.std.proofs.Common.{sym, subst, ◌∙◌}
use Rattle.std.proofs.lemmas.Result.{err_from_is_err_and}
use Rattle.graph_metadata.specs.Told.{Fails}
use Rattle.graph_metadata.proofs.FoldLemmas.{kinds-step, kinds-fails, kinds-end}
use Rattle.graph_metadata.proofs.nodes.kinds_in.Goals as goal

pub returns-in_err-kind : goal.returns-in_err-kind
returns-in_err-kind c =
    let p = err_from_is_err_and c.from_residual.result c.from_residual.ensures.1 in
    rw (p.1, p.2)
    (subst (Fails c.in_err-kind.field-0.0) (sym c.kinds.invariant)
    (kinds-fails c.args.i c.args.j c.kinds.kinds c.args.items.now c.kinds.k c.index-items-k.result c.in_err-kind.field-0.0
    c.kinds-test.true c.index-items-k.is c.in_err-kind.ensures))

pub kinds-preserved : goal.kinds-preserved
kinds-preserved c =
    rw c.with_kind-kinds.ensures
    (c.kinds.invariant
    ∙ kinds-step c.args.i c.args.j c.kinds.kinds c.args.items.now c.kinds.k c.index-items-k.result c.in_ok-kind.kind
    c.kinds-test.true c.index-items-k.is c.in_ok-kind.ensures)

pub returns : goal.returns
returns c = c.kinds.invariant ∙ kinds-end c.args.i c.args.j c.kinds.kinds c.args.items.now c.kinds.k c.kinds-test.false
