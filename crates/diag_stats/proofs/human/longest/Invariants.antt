use Rattle.std.proofs.Common.{◌≡◌, ◌≤◌, drop, max}
use Rattle.diag_stats.specs.Human.{widest_check}
use Rattle.diag_stats.proofs.human.longest.Given as goal

-- the longest so far and those that are left
abbrev pub invariant-checks : goal.invariant-checks
invariant-checks l = (max l.most (widest_check (drop l.check-index l.checks)) ≡ widest_check l.checks) × (l.most ≤ 17)
