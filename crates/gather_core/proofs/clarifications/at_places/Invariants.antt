use Rattle.std.proofs.Common.{◌≡◌, map, take}
use Rattle.gather_license.specs.Clarification.{lent_clarification}
use Rattle.gather_core.specs.Entries.{clarifications_at}
use Rattle.gather_core.proofs.clarifications.at_places.Given as goal

abbrev pub invariant-places : goal.invariant-places
invariant-places l = map lent_clarification l.found.items ≡ clarifications_at l.entries (take l.place-index l.places)
