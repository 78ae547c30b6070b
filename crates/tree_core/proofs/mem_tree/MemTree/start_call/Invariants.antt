use Rattle.std.proofs.Common.{◌≡◌, ◌-◌, ◌++◌, map, take, drop}
use Rattle.tree_core.proofs.mem_tree.MemTree.start_call.Given as goal

-- the waits before the place are one less, and those from it on are as they were
abbrev pub invariant-waits : goal.invariant-waits
invariant-waits l = l.wait-items ≡ map (λ n. n - 1) (take l.wait-index l.initial.wait-items) ++ drop l.wait-index l.initial.wait-items
