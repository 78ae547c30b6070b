use Rattle.std.proofs.Common.{◌≤◌, ◌-◌, length}
use Rattle.toml_subset.proofs.KeyRuns.{AreRead}
use Rattle.toml_subset.proofs.keys.read_keys.Given as goal

-- the parts so far were read
abbrev pub invariant-parts : goal.invariant-parts
invariant-parts l = (l.place ≤ length l.text) × AreRead l.text l.fn.place l.keys l.place

abbrev pub decreases-parts : goal.decreases-parts
decreases-parts l = length l.text - l.place
