-- The places of the members, by the ids of the graph.
use Rattle.std.proofs.Common.{◌≡◌, map, length, subst, sym, ◌∙◌}
use Rattle.graph_core.specs.Metadata.{id_of_node, ArePlaces}
use Rattle.graph_core.proofs.GraphLemmas.{made-members, made-places}
use Rattle.graph_core.proofs.metadata.Metadata.member_places.Goals as goal

pub returns-clause-value : goal.returns-clause-value
returns-clause-value c =
    rw c.deref.ensures.value
    (subst (λ graph. map (id_of_node graph) c.self.inside.member_places.items ≡ graph.members) c.self.view_is
    (made-members c.self.inside.crates.items c.self.inside.edges.items c.self.inside.members c.self.inside.workspace_root c.self.inside.root c.self.inside.member_places.items ∙ c.self.invariant.member_ids))

pub returns-clause-within : goal.returns-clause-within
returns-clause-within c =
    rw c.deref.ensures.value
    (subst (λ graph. ArePlaces (length graph.nodes) c.self.inside.member_places.items) c.self.view_is
    (made-places c.self.inside.crates.items c.self.inside.edges.items c.self.inside.members c.self.inside.workspace_root c.self.inside.root c.self.inside.member_places.items c.self.invariant.member_places))
