-- What is reported of all is what is reported of the rest, behind what was reported before.
use Rattle.std.proofs.Common.{◌≡◌, map, drop}
use Rattle.graph_metadata.specs.NodeRows.{deps_of}
use Rattle.graph_metadata.specs.Nodes.{edges_in, all_edges}
use Rattle.graph_metadata.specs.Told.{reading_of_each}
use Rattle.graph_metadata.proofs.EachLemmas.{onto}
use Rattle.graph_metadata.proofs.nodes.all_edges.Given as goal

abbrev pub invariant-lists : goal.invariant-lists
invariant-lists l =
    all_edges (map deps_of l.lists)
    ≡ onto l.all.items (reading_of_each (λ j value. edges_in j (deps_of value)) l.i (drop l.i l.lists))
