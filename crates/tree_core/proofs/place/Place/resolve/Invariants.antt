use Rattle.std.proofs.Common.{◌≡◌, length}
use Rattle.std.specs.List.{fold}
use Rattle.tree_core.specs.Content.{step, resolve}
use Rattle.tree_core.proofs.place.Place.resolve.Given as goal

-- the parts that are left lead on to where the path leads
abbrev pub invariant-parts : goal.invariant-parts
invariant-parts l = fold step l.place l.parts ≡ resolve l.path

abbrev pub decreases-parts : goal.decreases-parts
decreases-parts l = length l.parts
