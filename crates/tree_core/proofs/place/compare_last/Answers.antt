use Rattle.std.proofs.Common.{◌≡◌, ◌-◌, ◌∙◌, sym, length, slice_get, Some, arith}
use Rattle.std.proofs.lemmas.Grind.{common_steps}
use Rattle.tree_core.proofs.PlaceLemmas.{last_decides}
use Rattle.tree_core.proofs.place.compare_last.Goals as goal

pub returns-in-Some-Some : goal.returns-in-Some-Some
returns-in-Some-Some c =
    let x = c.args.left.now in
    let y = c.args.right.now in
    let at_x : slice_get x (length x - 1) ≡ Some c.in-Some-Some.left.now = grind (arith, common_steps) in
    let at_y : slice_get y (length y - 1) ≡ Some c.in-Some-Some.right.now = grind (arith, common_steps) in
    c.cmp.ensures ∙ sym (last_decides x y _ _ c.requires at_x at_y)
