-- Marking the places that are left gives what marking all gives.
use Rattle.std.proofs.Common.{◌≡◌, drop, fold, length}
use Rattle.graph_core.specs.selection.Places.{marked_at, marks_at}
use Rattle.graph_core.proofs.selection.standing.marks_at.Given as goal

abbrev pub invariant-places : goal.invariant-places
invariant-places l = record {
  counted : length l.marks.items ≡ l.count;
  so_far : fold marked_at l.marks.items (drop l.place-index l.places) ≡ marks_at l.count l.places;
}
