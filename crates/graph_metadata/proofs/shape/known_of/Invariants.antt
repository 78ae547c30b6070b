-- The ids of all items are those so far, with those of the rest.
use Rattle.std.proofs.Common.{◌≡◌, drop}
use Rattle.serde_json.specs.View.{items_view}
use Rattle.graph_metadata.specs.Shape.{known_of, known_in}
use Rattle.graph_metadata.proofs.shape.known_of.Given as goal

abbrev pub invariant-packages : goal.invariant-packages
invariant-packages l = known_of (items_view l.packages) ≡ known_in l.known l.index (items_view (drop l.index l.packages))
