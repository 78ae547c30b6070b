-- The copies so far.
use Rattle.std.proofs.Common.{◌≡◌, take}
use Rattle.check_why.proofs.making.places_copy.Given as goal

abbrev pub invariant-places : goal.invariant-places
invariant-places l = l.copies ≡ take l.place-index l.places
