-- The root, by the ids of the graph.
use Rattle.std.proofs.Common.{◌≡◌, length, option_map, subst}
use Rattle.graph_core.specs.Metadata.{id_of_node, IsPlace}
use Rattle.graph_core.proofs.GraphLemmas.{made-root, made-place}
use Rattle.graph_core.proofs.metadata.Metadata.root.Goals as goal

pub returns-clause-value : goal.returns-clause-value
returns-clause-value c =
    subst (λ graph. option_map (id_of_node graph) c.self.inside.root ≡ graph.root) c.self.view_is
    (made-root c.self.inside.crates.items c.self.inside.edges.items c.self.inside.members c.self.inside.workspace_root c.self.inside.root)

pub returns-clause-within : goal.returns-clause-within
returns-clause-within c =
    subst (λ graph. IsPlace (length graph.nodes) c.self.inside.root) c.self.view_is
    (made-place c.self.inside.crates.items c.self.inside.edges.items c.self.inside.members c.self.inside.workspace_root c.self.inside.root c.self.invariant.root_place)
