-- what was reported so far
use Rattle.std.proofs.Common.{◌≡◌, ◌++◌, map, take}
use Rattle.toml_subset.specs.shapes.ShapeViews.{fault_of}
use Rattle.policy_core.specs.Exceptions.{shape_diagnostic}
use Rattle.policy_core.proofs.findings.tell_faults.Given as goal

abbrev pub invariant-faults : goal.invariant-faults
invariant-faults l = l.found ≡ l.fn.found ++ map (λ fault. shape_diagnostic l.file (fault_of fault)) (take l.fault-index l.faults)
