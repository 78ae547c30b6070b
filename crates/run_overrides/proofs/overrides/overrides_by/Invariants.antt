use Rattle.run_overrides.proofs.PutLemmas.{IsSoFar}
use Rattle.run_overrides.proofs.overrides.overrides_by.Given as goal

abbrev pub invariant-items : goal.invariant-items
invariant-items l = IsSoFar l.items l.item-index l.overrides
