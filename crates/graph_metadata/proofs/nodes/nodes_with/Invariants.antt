-- What is reported of all is what is reported of the rest, behind what was reported before.
use Rattle.std.proofs.Common.{◌≡◌, map, drop}
use Rattle.serde_json.specs.View.{view, items_view}
use Rattle.graph_metadata.specs.NodeRows.{node_of}
use Rattle.graph_metadata.specs.Nodes.{node_row, nodes_with}
use Rattle.graph_metadata.specs.Told.{reading_of_each}
use Rattle.graph_metadata.proofs.EachLemmas.{onto}
use Rattle.graph_metadata.proofs.nodes.nodes_with.Given as goal

abbrev pub invariant-nodes : goal.invariant-nodes
invariant-nodes l =
    nodes_with l.known l.firsts (items_view l.items)
    ≡ onto (map node_of l.nodes.items) (reading_of_each (λ j value. node_row l.known l.firsts j (view value)) l.index (drop l.index l.items))
