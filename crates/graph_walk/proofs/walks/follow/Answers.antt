-- The ends of the edges are crates.
use Rattle.std.proofs.Common.{◌<◌, ℕ, All, length, sym, subst}
use Rattle.std.proofs.lemmas.List.Sorted.{All-permutation}
use Rattle.graph_core.specs.Metadata.{LeadWithin}
use Rattle.graph_walk.proofs.EndLemmas.{ends-within}
use Rattle.graph_walk.proofs.walks.follow.Goals as goal

pub put_all-requires-clause-within : goal.put_all-requires-clause-within
put_all-requires-clause-within c =
    let count : ℕ = length c.args.search.now.best in
    let within : LeadWithin count c.edges_at.result.now =
    subst (λ n. LeadWithin n c.edges_at.result.now) (sym c.requires.counted) c.edges_at.ensures.within in
    subst (All (λ place. place < count)) (sym c.deref.ensures.value)
    (All-permutation (λ place. place < count) c.in_ok-ends.ends.items c.in_order.result.items c.in_order.ensures.same
    (subst (All (λ place. place < count)) (sym c.in_ok-ends.ensures)
    (ends-within c.args.search.now c.args.standings.now c.counting_at-counting.result c.edges_at.result.now count within)))
