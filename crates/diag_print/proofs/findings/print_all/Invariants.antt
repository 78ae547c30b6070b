use Rattle.std.proofs.Common.{◌≤◌, take, string_bytes}
use Rattle.diag_print.specs.Findings.{LeavesPending, printed_findings}
use Rattle.diag_print.proofs.findings.print_all.Given as goal

-- the lines of the first findings were written or are pending, and the count has not fallen
abbrev pub invariant-findings : goal.invariant-findings
invariant-findings g l =
    (l.begun ≤ g.S.Sink.fault_count l.sink)
    × (g.S.Sink.fault_count l.initial.sink ≤ g.S.Sink.fault_count l.sink)
    × LeavesPending (g.S.Sink.written l.initial.sink) (g.S.Sink.written l.sink) (string_bytes l.pending) (printed_findings l.printer l.files (take l.finding-index l.findings))
