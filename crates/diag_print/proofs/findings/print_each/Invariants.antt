use Rattle.std.proofs.Common.{◌≤◌, take, string_bytes}
use Rattle.diag_print.specs.Findings.{LeavesPending, printed_packs}
use Rattle.diag_print.proofs.findings.print_each.Given as goal

-- the lines of the first packs were written or are pending, and the count has not fallen
abbrev pub invariant-packs : goal.invariant-packs
invariant-packs g l =
    (l.begun ≤ g.S.Sink.fault_count l.sink)
    × (g.S.Sink.fault_count l.initial.sink ≤ g.S.Sink.fault_count l.sink)
    × LeavesPending (g.S.Sink.written l.initial.sink) (g.S.Sink.written l.sink) (string_bytes l.pending) (printed_packs l.printer l.files (take l.pack-index l.packs))
