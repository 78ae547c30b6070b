use Rattle.std.proofs.Common.{◌≡◌, ◌≤◌, ◌-◌, length, drop}
use Rattle.toml_subset.specs.Numbers.{are_grouped}
use Rattle.toml_subset.proofs.Groups.{groups_after}
use Rattle.toml_subset.proofs.number.are_grouped.Given as goal

-- the rest decides from here
abbrev pub invariant-bytes : goal.invariant-bytes
invariant-bytes l = (l.place ≤ length l.run) × (are_grouped l.base l.run ≡ groups_after l.behind_digit l.base (drop l.place l.run))

abbrev pub decreases-bytes : goal.decreases-bytes
decreases-bytes l = length l.run - l.place
