-- the places so far
use Rattle.std.proofs.Common.{◌≡◌, take}
use Rattle.policy_core.specs.config.Places.{places_there}
use Rattle.policy_core.proofs.config.placed.places_of.Given as goal

abbrev pub invariant-places : goal.invariant-places
invariant-places l = l.spans ≡ places_there (take l.place-index l.places)
