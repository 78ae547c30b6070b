use Rattle.std.proofs.Common.{arith}
use Rattle.std.proofs.lemmas.List.{length-take, length-drop}
use Rattle.std.proofs.lemmas.Result.{err_from_is_err_and}
use Rattle.tree_core.proofs.GainedLemmas.{Gained-take_more, GainedPrefix-take}
use Rattle.tree_core.proofs.sink.write_all.Goals as goal

pub returns-in_err-from-clause-err : goal.returns-in_err-from-clause-err
returns-in_err-from-clause-err g c =
    let p = err_from_is_err_and c.from_residual.result c.from_residual.ensures.1 in
    rw p.1 (GainedPrefix-take _ _ _ _ _ c.pieces.invariant.1 c.in_err-from.ensures.refused)

pub pieces-preserved : goal.pieces-preserved
pieces-preserved g c =
    (omega (arith, simp (length-take, length-drop) at c.in_ok-from.ensures.most), Gained-take_more _ _ _ _ _ _ c.pieces.invariant.1 c.in_ok-from.ensures.taken, omega (arith, c.in_ok-from.ensures.cause.later))
