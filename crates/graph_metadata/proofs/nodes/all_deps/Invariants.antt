-- What is reported of all is what is reported of the rest, behind what was reported before.
use Rattle.std.proofs.Common.{◌≡◌, map, drop}
use Rattle.graph_metadata.specs.NodeRows.{node_of, deps_of}
use Rattle.graph_metadata.specs.Nodes.{deps_in, all_deps}
use Rattle.graph_metadata.specs.Told.{reading_of_each}
use Rattle.graph_metadata.proofs.EachLemmas.{onto}
use Rattle.graph_metadata.proofs.nodes.all_deps.Given as goal

abbrev pub invariant-lists : goal.invariant-lists
invariant-lists l =
    all_deps l.known (map node_of l.nodes)
    ≡ onto (map deps_of l.lists.items) (reading_of_each (λ j value. deps_in l.known j (node_of value)) l.i (drop l.i l.nodes))
