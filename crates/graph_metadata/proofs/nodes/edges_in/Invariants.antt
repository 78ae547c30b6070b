-- What is reported of all is what is reported of the rest, behind what was reported before.
use Rattle.std.proofs.Common.{◌≡◌, map, drop}
use Rattle.graph_metadata.specs.NodeRows.{dep_of}
use Rattle.graph_metadata.specs.Nodes.{edge_row, edges_in}
use Rattle.graph_metadata.specs.Told.{reading_of_each}
use Rattle.graph_metadata.proofs.EachLemmas.{onto}
use Rattle.graph_metadata.proofs.nodes.edges_in.Given as goal

abbrev pub invariant-edges : goal.invariant-edges
invariant-edges l =
    edges_in l.i (map dep_of l.deps) ≡ onto l.edges (reading_of_each (λ j value. edge_row l.i j (dep_of value)) l.j (drop l.j l.deps))
