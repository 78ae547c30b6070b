-- The lists that were made are those of the rows, and they fit together.
use Rattle.std.proofs.Common.{◌≡◌, ◌<◌, [], map, length, slice_get, option_map, IfSome, sym, ap, subst, ◌∙◌}
use Rattle.std.specs.List.{AllByRecursion, filter_map}
use Rattle.std.proofs.lemmas.List.{length-map}
use Rattle.graph_core.specs.declared.edge.Edge.{Edge}
use Rattle.graph_core.specs.Krate.{record_of}
use Rattle.graph_metadata.specs.NodeRows.{member_of}
use Rattle.graph_metadata.specs.Order.{spot_place, id_of_member, rank_at, rank_of_member, ranked_edges}
use Rattle.graph_metadata.specs.Records.{spots_of}
use Rattle.graph_metadata.specs.Sound.{AreApart}
use Rattle.graph_metadata.proofs.OrderLemmas.{crates_at, places-within, places-apart, fit, same_graph}
use Rattle.graph_metadata.proofs.order.in_order.Goals as goal

pub parts_of-requires : goal.parts_of-requires
parts_of-requires c =
    let crates = c.args.rows.crates.items in
    let lists = c.args.rows.edges.items in
    let low : AllByRecursion (AllByRecursion (λ (edge : Edge). edge.to < length crates)) lists =
    subst (λ n. AllByRecursion (AllByRecursion (λ (edge : Edge). edge.to < n)) lists) (length-map crates record_of) c.requires.within in
    places-within c.args.rows.root.known c.args.rows.nodes.firsts crates lists [] c.requires.located c.requires.complete low

pub crates_in_order-requires-clause-apart : goal.crates_in_order-requires-clause-apart
crates_in_order-requires-clause-apart c =
    let crates = c.args.rows.crates.items in
    let lists = c.args.rows.edges.items in
    let low : AllByRecursion (AllByRecursion (λ (edge : Edge). edge.to < length crates)) lists =
    subst (λ n. AllByRecursion (AllByRecursion (λ (edge : Edge). edge.to < n)) lists) (length-map crates record_of) c.requires.within in
    subst (λ spots. AreApart (map spot_place spots)) (sym (c.deref.ensures.value ∙ c.in_ok-parts.ensures.spots))
    (places-apart c.args.rows.root.known c.args.rows.nodes.firsts crates lists [] c.requires.located c.requires.complete low)

pub crates_in_order-requires-clause-within : goal.crates_in_order-requires-clause-within
crates_in_order-requires-clause-within c =
    let crates = c.args.rows.crates.items in
    let lists = c.args.rows.edges.items in
    let low : AllByRecursion (AllByRecursion (λ (edge : Edge). edge.to < length crates)) lists =
    subst (λ n. AllByRecursion (AllByRecursion (λ (edge : Edge). edge.to < n)) lists) (length-map crates record_of) c.requires.within in
    subst (λ spots. AllByRecursion (λ place. place < length crates) (map spot_place spots))
    (sym (c.deref.ensures.value ∙ c.in_ok-parts.ensures.spots))
    (places-within c.args.rows.root.known c.args.rows.nodes.firsts crates lists [] c.requires.located c.requires.complete low)

pub of_parts-requires : goal.of_parts-requires
of_parts-requires c =
    let known = c.args.rows.root.known in
    let firsts = c.args.rows.nodes.firsts in
    let crates = c.args.rows.crates.items in
    let lists = c.args.rows.edges.items in
    let members = map member_of c.args.rows.root.members.items in
    let parts = c.in_ok-parts.parts in
    let made = c.in_ok-parts.ensures in
    let ranks = parts.ranks.items in
    let low : AllByRecursion (AllByRecursion (λ (edge : Edge). edge.to < length crates)) lists =
    subst (λ n. AllByRecursion (AllByRecursion (λ (edge : Edge). edge.to < n)) lists) (length-map crates record_of) c.requires.within in
    let below : IfSome c.args.rows.resolve.root (λ place. place < length crates) =
    subst (λ n. IfSome c.args.rows.resolve.root (λ place. place < n)) (length-map crates record_of) c.requires.root in
    let e_crates : c.in_ok-crates.crates.items ≡ crates_at crates (map spot_place (spots_of known firsts)) =
    c.in_ok-crates.ensures ∙ ap (λ spots. filter_map (slice_get crates) (map spot_place spots)) (c.deref.ensures.value ∙ made.spots) in
    let e_edges : parts.edges.items ≡ map (ranked_edges ranks lists) (spots_of known firsts) = made.edges in
    let e_members : parts.members ≡ map id_of_member members = made.members in
    let e_places : parts.member_places.items ≡ map (rank_of_member ranks) members = made.places in
    let e_root : parts.root ≡ option_map (rank_at ranks) c.args.rows.resolve.root = made.root in
    rw (e_crates, e_edges, e_members, e_places, e_root)
    (fit known firsts crates lists ranks c.requires.located c.requires.complete low made.ranks members c.args.rows.resolve.root c.requires.members below)

pub returns : goal.returns
returns c =
    let known = c.args.rows.root.known in
    let firsts = c.args.rows.nodes.firsts in
    let crates = c.args.rows.crates.items in
    let lists = c.args.rows.edges.items in
    let members = map member_of c.args.rows.root.members.items in
    let parts = c.in_ok-parts.parts in
    let made = c.in_ok-parts.ensures in
    let ranks = parts.ranks.items in
    let low : AllByRecursion (AllByRecursion (λ (edge : Edge). edge.to < length crates)) lists =
    subst (λ n. AllByRecursion (AllByRecursion (λ (edge : Edge). edge.to < n)) lists) (length-map crates record_of) c.requires.within in
    let below : IfSome c.args.rows.resolve.root (λ place. place < length crates) =
    subst (λ n. IfSome c.args.rows.resolve.root (λ place. place < n)) (length-map crates record_of) c.requires.root in
    let e_crates : c.in_ok-crates.crates.items ≡ crates_at crates (map spot_place (spots_of known firsts)) =
    c.in_ok-crates.ensures ∙ ap (λ spots. filter_map (slice_get crates) (map spot_place spots)) (c.deref.ensures.value ∙ made.spots) in
    let e_edges : parts.edges.items ≡ map (ranked_edges ranks lists) (spots_of known firsts) = made.edges in
    let e_members : parts.members ≡ map id_of_member members = made.members in
    let e_root : parts.root ≡ option_map (rank_at ranks) c.args.rows.resolve.root = made.root in
    c.of_parts.ensures
    ∙ rw (e_crates, e_edges, e_members, e_root, made.folder)
    (same_graph known firsts crates lists ranks c.requires.located c.requires.complete low made.ranks members c.args.rows.root.workspace_root.now c.args.rows.resolve.root below)
