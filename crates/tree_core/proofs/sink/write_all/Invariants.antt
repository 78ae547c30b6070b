use Rattle.std.proofs.Common.{◌-◌, ◌≤◌, length, take}
use Rattle.tree_core.specs.Faults.{Gained}
use Rattle.tree_core.proofs.sink.write_all.Given as goal

-- the first bytes are written, and the count has not fallen
abbrev pub invariant-pieces : goal.invariant-pieces
invariant-pieces g l =
    (l.from ≤ length l.bytes)
    × Gained (g.S.Sink.written l.initial.sink) (g.S.Sink.written l.sink) (take l.from l.bytes)
    × (g.S.Sink.fault_count l.initial.sink ≤ g.S.Sink.fault_count l.sink)

abbrev pub decreases-pieces : goal.decreases-pieces
decreases-pieces g l = length l.bytes - l.from
