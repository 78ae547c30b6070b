use Rattle.std.proofs.Common.{◌≡◌, take}
use Rattle.gather_core.specs.Turns as spec
use Rattle.gather_core.proofs.tell.missing_findings.Given as goal

abbrev pub invariant-places : goal.invariant-places
invariant-places l = l.diags ≡ spec.missing_findings (take l.place-index l.missing)
