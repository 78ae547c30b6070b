use Rattle.std.proofs.Common.{length}
use Rattle.policy_parts.proofs.spec.order.+compare_each.Given as goal

abbrev pub decreases-compare_each : goal.decreases-compare_each
decreases-compare_each l = length l.x.now
