use Rattle.std.proofs.Common.{arith}
use Rattle.run_list_text.proofs.PendingLemmas.{nothing_yet, one_pending, one_pending_cut, of_refusal}
use Rattle.run_list_text.proofs.lines.add_all.Goals as goal

pub items-init : goal.items-init
items-init g c = (omega (arith, c.requires.begun), omega arith, nothing_yet _ _)

pub items-preserved : goal.items-preserved
items-preserved g c =
    let before = c.items.invariant in
    let begun = before.0 in
    let earlier = before.1 in
    let later = c.in_ok-add_one.ensures.later in (
      omega arith,
      omega arith,
      one_pending (g.L.Lines.line c.args.lines.now) c.args.items.now c.items.item-index c.item-item.result c.items-test.true c.item-item.is _ _ _ _ _ before.2 _ c.in_ok-add_one.ensures.ok,
    )

pub returns-in_err-add_one-clause-err : goal.returns-in_err-add_one-clause-err
returns-in_err-add_one-clause-err g c =
    of_refusal c.from_residual.result _
    (one_pending_cut (g.L.Lines.line c.args.lines.now) c.args.items.now c.items.item-index c.item-item.result c.items-test.true c.item-item.is _ _ _ _ _ c.items.invariant.2 c.in_err-add_one.ensures.err)
