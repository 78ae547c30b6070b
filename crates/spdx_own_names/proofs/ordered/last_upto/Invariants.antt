-- the last of the lengths so far
use Rattle.std.proofs.Common.{◌≤◌, ◌-◌}
use Rattle.spdx_own_names.specs.Ordered.{IsLastUpto}
use Rattle.spdx_own_names.proofs.ordered.last_upto.Given as goal

abbrev pub invariant-lens : goal.invariant-lens
invariant-lens l = (l.len ≤ l.most) × IsLastUpto l.ordered l.text l.len l.last

abbrev pub decreases-lens : goal.decreases-lens
decreases-lens l = l.most - l.len
