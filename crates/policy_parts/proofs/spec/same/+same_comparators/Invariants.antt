use Rattle.std.proofs.Common.{length}
use Rattle.policy_parts.proofs.spec.same.+same_comparators.Given as goal

abbrev pub decreases-same_comparators : goal.decreases-same_comparators
decreases-same_comparators l = length l.x.now
