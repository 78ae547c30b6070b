use Rattle.std.proofs.Common.{◌≡◌, map, take}
use Rattle.policy_core.specs.valid.View.{grant_of}
use Rattle.policy_core.specs.valid.Indexes.{granted_families}
use Rattle.policy_core.proofs.valid.counted.indexes_of.Given as goal

-- the exceptions so far
abbrev pub invariant-exceptions : goal.invariant-exceptions
invariant-exceptions l = l.indexes ≡ granted_families (map grant_of (take l.exception-index l.exceptions))
