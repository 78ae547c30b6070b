-- the places of the texts so far
use Rattle.std.proofs.Common.{take}
use Rattle.spdx_terms.specs.catalog.StorePlaces.{FindsPlaces, all_spelled}
use Rattle.spdx_terms.proofs.catalog.store.places_of.Given as goal

abbrev pub invariant-texts : goal.invariant-texts
invariant-texts l = FindsPlaces l.places (all_spelled (take l.place l.texts))
