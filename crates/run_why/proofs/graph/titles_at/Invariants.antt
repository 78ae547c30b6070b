-- The titles so far.
use Rattle.std.proofs.Common.{◌≡◌, take}
use Rattle.run_why.specs.Steps.{copied_titles}
use Rattle.run_why.proofs.graph.titles_at.Given as goal

abbrev pub invariant-places : goal.invariant-places
invariant-places l = l.copies ≡ copied_titles l.titles (take l.place-index l.places)
