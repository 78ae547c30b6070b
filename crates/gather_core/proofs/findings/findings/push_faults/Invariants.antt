use Rattle.std.proofs.Common.{◌≡◌, ◌++◌, map, take}
use Rattle.gather_core.specs.findings.Findings as spec
use Rattle.gather_core.proofs.findings.findings.push_faults.Given as goal

abbrev pub invariant-faults : goal.invariant-faults
invariant-faults l = l.diags ≡ l.fn.diags ++ map (spec.field_fault l.field) (take l.fault-index l.faults)
