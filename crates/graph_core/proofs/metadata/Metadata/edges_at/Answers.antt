-- The edges of a place, by the ids of the graph.
use Rattle.std.proofs.Common.{◌≡◌, ◌<◌, map, length, slice_index_or, subst, sym, arith}
use Rattle.graph_core.specs.Metadata.{link_in, edges_at, LeadWithin}
use Rattle.graph_core.proofs.GraphLemmas.{made-edges, made-within, made-below}
use Rattle.graph_core.proofs.metadata.Metadata.edges_at.Goals as goal

pub bounds-lists-place : goal.bounds-lists-place
bounds-lists-place c =
    subst (λ lists. c.args.place < length lists) (sym c.deref-lists.ensures.value)
    (subst (λ graph. c.args.place < length graph.nodes → c.args.place < length c.self.inside.edges.items) c.self.view_is
    (λ h. made-below c.self.inside.crates.items c.self.inside.edges.items c.self.inside.members c.self.inside.workspace_root c.self.inside.root c.args.place h c.self.invariant.counted) c.requires)

pub offset_bounds-lists-place : goal.offset_bounds-lists-place
offset_bounds-lists-place c =
    let below : c.args.place < length c.deref-lists.result.now =
    subst (λ lists. c.args.place < length lists) (sym c.deref-lists.ensures.value)
    (subst (λ graph. c.args.place < length graph.nodes → c.args.place < length c.self.inside.edges.items) c.self.view_is
    (λ h. made-below c.self.inside.crates.items c.self.inside.edges.items c.self.inside.members c.self.inside.workspace_root c.self.inside.root c.args.place h c.self.invariant.counted) c.requires) in
    omega arith

pub returns-clause-value : goal.returns-clause-value
returns-clause-value c =
    let at : c.index-lists-place.result ≡ slice_index_or c.self.inside.edges.items c.args.place c.index-lists-place.result =
    subst (λ lists. c.index-lists-place.result ≡ slice_index_or lists c.args.place c.index-lists-place.result)
    c.deref-lists.ensures.value c.index-lists-place.is in
    rw c.items.ensures
    (subst
    (λ graph. c.args.place < length graph.nodes → map (link_in graph) c.index-lists-place.result ≡ edges_at graph c.args.place)
    c.self.view_is
    (λ below. made-edges c.self.inside.crates.items c.self.inside.edges.items c.self.inside.members c.self.inside.workspace_root c.self.inside.root c.args.place c.index-lists-place.result below c.self.invariant.counted at) c.requires)

pub returns-clause-within : goal.returns-clause-within
returns-clause-within c =
    let at : c.index-lists-place.result ≡ slice_index_or c.self.inside.edges.items c.args.place c.index-lists-place.result =
    subst (λ lists. c.index-lists-place.result ≡ slice_index_or lists c.args.place c.index-lists-place.result)
    c.deref-lists.ensures.value c.index-lists-place.is in
    let below : c.args.place < length c.self.inside.edges.items =
    (subst (λ graph. c.args.place < length graph.nodes → c.args.place < length c.self.inside.edges.items) c.self.view_is
    (λ h. made-below c.self.inside.crates.items c.self.inside.edges.items c.self.inside.members c.self.inside.workspace_root c.self.inside.root c.args.place h c.self.invariant.counted) c.requires) in
    rw c.items.ensures
    (subst (λ graph. LeadWithin (length graph.nodes) c.index-lists-place.result) c.self.view_is
    (made-within c.self.inside.crates.items c.self.inside.edges.items c.self.inside.members c.self.inside.workspace_root c.self.inside.root c.index-lists-place.result
    (subst (LeadWithin (length c.self.inside.crates.items)) (sym at)
    (c.self.invariant.within c.args.place c.index-lists-place.result below))))
