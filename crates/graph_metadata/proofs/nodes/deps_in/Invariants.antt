-- What is reported of all is what is reported of the rest, behind what was reported before.
use Rattle.std.proofs.Common.{◌≡◌, map, drop}
use Rattle.serde_json.specs.View.{view}
use Rattle.graph_metadata.specs.NodeRows.{node_of, dep_of}
use Rattle.graph_metadata.specs.Nodes.{dep_row, deps_in}
use Rattle.graph_metadata.specs.Told.{reading_of_each}
use Rattle.graph_metadata.proofs.EachLemmas.{onto}
use Rattle.graph_metadata.proofs.nodes.deps_in.Given as goal

abbrev pub invariant-deps : goal.invariant-deps
invariant-deps l =
    deps_in l.known l.i (node_of l.node)
    ≡ onto (map dep_of l.deps.items) (reading_of_each (λ j value. dep_row l.known l.i j (view value)) l.j (drop l.j l.items))
