use Rattle.std.proofs.Common.{ℕ, ◌-◌, ◌<◌, length, get_or, arith}
use Rattle.std.proofs.lemmas.List.{get_or_default}
use Rattle.std.proofs.lemmas.List.Edits.{map_over_more}
use Rattle.tree_core.proofs.mem_tree.MemTree.start_call.Goals as goal

pub waits-preserved : goal.waits-preserved
waits-preserved c =
    let inside : c.waits.wait-index < length c.waits.wait-items = omega arith in
    let here = get_or_default c.waits.wait-items c.waits.wait-index 0 (get_or c.waits.wait-items c.waits.wait-index 0) inside in
    rw c.saturating_sub.ensures (map_over_more (λ (n : ℕ). n - 1) _ _ _ _ c.waits-test.true c.waits.invariant here)
