-- One turn of the walk: a place that waited is followed.
use Rattle.std.proofs.Common.{◌≡◌, ℕ, ◌+◌, ◌<◌, List, [], ◌∷◌, ◌++◌, map, length, Option, sym, ◌∙◌, ap, subst, arith}
use Rattle.std.proofs.lemmas.List.{length-append, length-map}
use Rattle.std.proofs.lemmas.List.Elements.{All-contains, Contains-push, recursion_from_All}
use Rattle.graph_core.specs.declared.edge.DepKind.{DepKind}
use Rattle.graph_core.specs.declared.edge.Edge.{Edge}
use Rattle.graph_core.specs.declared.edge.Kinds.{Kinds}
use Rattle.graph_core.specs.Metadata.{Graph, CrateNode, AreRising, LeadWithin, ids_of, edges_at, link_in}
use Rattle.graph_core.specs.declared.selection.standing.Standing.{Standing}
use Rattle.graph_core.specs.selection.Choice.{Choice}
use Rattle.graph_core.specs.selection.Roots.{crates_of}
use Rattle.graph_core.specs.selection.Places.{FrontierView, counting_at, follow, other_kinds, standing_at, standing_of, standings_in}
use Rattle.graph_core.proofs.selection.PutLemmas.{left_to_do, unmarked}
use Rattle.graph_core.proofs.selection.FollowLemmas.{follow-left}
use Rattle.graph_core.proofs.selection.GraphPlaces.{node-at}
use Rattle.graph_core.proofs.selection.UnderWay.{IsUnderWay, under-way-followed}

module _ (graph : Graph) (choice : Choice) (named : Option DepKind) (rising : AreRising (ids_of graph))
    (standings : List Standing) (told : standings ≡ standings_in graph choice) where
  pub count-standings : length standings ≡ length graph.nodes
  count-standings =
      ap length told
      ∙ (length-map (crates_of graph) (standing_of graph choice) ∙ length-map graph.nodes (λ (node : CrateNode). node.krate))

  module _ (seen : FrontierView) (rest : List ℕ) (place : ℕ) (waits : seen.waiting ≡ rest ++ place ∷ [])
      (before : IsUnderWay graph choice named seen) where
    popped : IsUnderWay graph choice named (record { marks = seen.marks; waiting = rest ++ place ∷ [] })
    popped = subst (λ waiting. IsUnderWay graph choice named (record { marks = seen.marks; waiting = waiting })) waits before

    pub below : place < length graph.nodes
    below = All-contains (λ q. q < length graph.nodes) (rest ++ place ∷ []) place popped.within (Contains-push rest place)

    pub below-standings : place < length standings
    below-standings = subst (λ n. place < n) (sym count-standings) below

    pub counted : length seen.marks ≡ length standings
    counted = before.counted ∙ sym count-standings

    module _ (edges : List Edge) (within : LeadWithin (length graph.nodes) edges) where
      pub within-standings : LeadWithin (length standings) edges
      within-standings = subst (λ n. LeadWithin n edges) (sym count-standings) within

      abbrev start : FrontierView
      start = record { marks = seen.marks; waiting = rest }

      pub less : (counting : Kinds) → left_to_do (follow standings counting start edges) < left_to_do seen
      less counting =
          let same : left_to_do (follow standings counting start edges) ≡ unmarked seen.marks + length rest =
          follow-left standings counting (length graph.nodes) edges start before.counted
          (recursion_from_All (λ (edge : Edge). edge.to < length graph.nodes) edges within) in
          let more : length seen.waiting ≡ length (rest ++ place ∷ []) = ap length waits in
          let sum = length-append rest (place ∷ []) in
          omega arith

      pub followed : map (link_in graph) edges ≡ edges_at graph place → (counting : Kinds)
          → counting ≡ counting_at choice.exclude_dev (other_kinds named) (standing_at standings place)
          → IsUnderWay graph choice named (follow standings counting start edges)
      followed links counting counts =
          let there = node-at graph rising place below in
          subst (λ kinds. IsUnderWay graph choice named (follow standings kinds start edges)) (sym counts)
          (subst (λ (all : List Standing). IsUnderWay graph choice named
          (follow all (counting_at choice.exclude_dev (other_kinds named) (standing_at all place)) start edges)) (sym told)
          (under-way-followed graph choice named rising place there.0 there.1 edges within links rest seen.marks popped))
