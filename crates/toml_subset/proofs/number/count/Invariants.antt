use Rattle.std.proofs.Common.{◌≡◌, ◌<◌, ◌≤◌, ◌-◌, ◌^◌, length, drop}
use Rattle.toml_subset.specs.Numbers.{count, number_behind}
use Rattle.toml_subset.proofs.number.count.Given as goal

-- the rest counts on from here
abbrev pub invariant-bytes : goal.invariant-bytes
invariant-bytes l = (l.place ≤ length l.run) × (l.total < 2 ^ 64) × (count l.base l.run ≡ number_behind l.base l.total (drop l.place l.run))

abbrev pub decreases-bytes : goal.decreases-bytes
decreases-bytes l = length l.run - l.place
