-- the numbers so far
use Rattle.std.proofs.Common.{◌≡◌, map, take}
use Rattle.policy_parts.specs.spec.Index.{spec_numbers}
use Rattle.policy_parts.proofs.spec.index.SpecIndex.of.Given as goal

abbrev pub invariant-items : goal.invariant-items
invariant-items g l = l.numbers ≡ spec_numbers (map g.S.HasSpec.spec_of (take l.item-index l.items))
