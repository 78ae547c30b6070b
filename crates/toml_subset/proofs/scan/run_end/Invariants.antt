use Rattle.std.proofs.Common.{◌≡◌, ◌≤◌, ◌-◌, length}
use Rattle.toml_subset.specs.Places.{belongs, run_end}
use Rattle.toml_subset.proofs.scan.run_end.Given as goal

-- the run goes as far from here as it does from its start
abbrev pub invariant-bytes : goal.invariant-bytes
invariant-bytes l = (l.end ≤ length l.text) × (run_end (belongs l.run) l.text l.end ≡ run_end (belongs l.run) l.text l.place)

abbrev pub decreases-bytes : goal.decreases-bytes
decreases-bytes l = length l.text - l.end
