use Rattle.std.proofs.Common.{◌≤◌, ◌++◌, flat_map, take}
use Rattle.run_list_text.specs.Written.{LeavesPending}
use Rattle.run_list_text.proofs.lines.add_all.Given as goal

-- the lines of the first items were written or are pending, and the count has not fallen
abbrev pub invariant-items : goal.invariant-items
invariant-items g l =
    (l.begun ≤ g.S.Sink.fault_count l.sink)
    × (g.S.Sink.fault_count l.initial.sink ≤ g.S.Sink.fault_count l.sink)
    × LeavesPending (g.S.Sink.written l.initial.sink) (g.S.Sink.written l.sink) l.pending.items (l.initial.pending.items ++ flat_map (g.L.Lines.line l.lines) (take l.item-index l.items))
