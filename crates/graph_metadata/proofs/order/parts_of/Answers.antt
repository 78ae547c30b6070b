-- The lists that were made are those of the rows.
use Rattle.std.proofs.Common.{◌≡◌, ◌<◌, map, length, option_map, sym, ap, subst, ◌∙◌}
use Rattle.std.specs.List.{AllByRecursion}
use Rattle.graph_metadata.specs.NodeRows.{member_of}
use Rattle.graph_metadata.specs.Order.{AreRanks, spot_place, id_of_member, rank_at, rank_of_member, ranked_edges}
use Rattle.graph_metadata.specs.Records.{spots_of}
use Rattle.graph_metadata.proofs.order.parts_of.Goals as goal

pub ranks_of-requires : goal.ranks_of-requires
ranks_of-requires c =
    let crates = c.args.rows.now.crates.items in
    subst (λ n. AllByRecursion (λ place. place < n) (map spot_place c.deref.result.now)) (sym c.len.ensures)
    (subst (λ n. AllByRecursion (λ place. place < n) (map spot_place c.deref.result.now)) (sym c.args.rows.now.crates.ok.0)
    (subst (λ spots. AllByRecursion (λ place. place < length crates) (map spot_place spots))
    (sym (c.deref.ensures.value ∙ c.in_ok-spots.ensures))
    c.requires))

pub returns : goal.returns
returns c =
    let known = c.args.rows.now.root.known in
    let firsts = c.args.rows.now.nodes.firsts in
    let lists = c.args.rows.now.edges.items in
    let members = map member_of c.args.rows.now.root.members.items in
    let ranks = c.in_ok-ranks.ranks.items in
    let ranked : AreRanks (map spot_place (spots_of known firsts)) (length (spots_of known firsts)) ranks =
    subst (λ spots. AreRanks (map spot_place spots) (length spots) ranks) (c.deref.ensures.value ∙ c.in_ok-spots.ensures) c.in_ok-ranks.ensures in
    let e_edges : c.in_ok-edges.edges.items ≡ map (ranked_edges ranks lists) (spots_of known firsts) =
    c.in_ok-edges.ensures
    ∙ (ap (λ found. map (ranked_edges found c.deref-4.result.now) c.deref-2.result.now) c.deref-3.ensures.value
    ∙ (ap (λ found. map (ranked_edges ranks found) c.deref-2.result.now) c.deref-4.ensures.value
    ∙ ap (map (ranked_edges ranks lists)) (c.deref-2.ensures.value ∙ c.in_ok-spots.ensures))) in
    let e_members : c.in_ok-members.members ≡ map id_of_member members =
    c.in_ok-members.ensures ∙ ap (λ found. map id_of_member (map member_of found)) c.deref-5.ensures.value in
    let e_places : c.in_ok-member_places.member_places.items ≡ map (rank_of_member ranks) members =
    c.in_ok-member_places.ensures
    ∙ (ap (λ found. map (rank_of_member found) (map member_of c.deref-7.result.now)) c.deref-6.ensures.value
    ∙ ap (λ found. map (rank_of_member ranks) (map member_of found)) c.deref-7.ensures.value) in
    let e_root : c.root_rank-root.result ≡ option_map (rank_at ranks) c.args.rows.now.resolve.root =
    c.root_rank-root.ensures ∙ ap (λ found. option_map (rank_at found) c.args.rows.now.resolve.root) c.deref-8.ensures.value in
    record {
      spots = c.in_ok-spots.ensures;
      ranks = ranked;
      edges = e_edges;
      members = e_members;
      places = e_places;
      folder = c.in_ok-workspace_root.ensures;
      root = e_root;
    }
