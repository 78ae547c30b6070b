-- The kinds of all items are those so far, with those of the rest.
use Rattle.std.proofs.Common.{◌≡◌, drop}
use Rattle.serde_json.specs.View.{items_view}
use Rattle.graph_core.specs.Metadata.{no_kinds}
use Rattle.graph_metadata.specs.Nodes.{kinds_in}
use Rattle.graph_metadata.proofs.nodes.kinds_in.Given as goal

abbrev pub invariant-kinds : goal.invariant-kinds
invariant-kinds l = kinds_in l.i l.j 0 no_kinds (items_view l.items) ≡ kinds_in l.i l.j l.k l.kinds (items_view (drop l.k l.items))
