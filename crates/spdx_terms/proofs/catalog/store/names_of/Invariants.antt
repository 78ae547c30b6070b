-- the places of the names so far
use Rattle.std.proofs.Common.{take}
use Rattle.spdx_terms.specs.catalog.StorePlaces.{FindsPlaces, all_named}
use Rattle.spdx_terms.proofs.catalog.store.names_of.Given as goal

abbrev pub invariant-texts : goal.invariant-texts
invariant-texts l = FindsPlaces l.places (all_named (take l.place l.texts))
