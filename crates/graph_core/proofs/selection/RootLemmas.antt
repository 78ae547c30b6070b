-- The roots are put: they are marked and wait, and nothing else is.
use Rattle.std.proofs.Common.{◌≡◌, ℕ, zero, suc, ◌+◌, ◌<◌, ◌⊎◌, true, false, List, [], ◌∷◌, length, replicate, slice_index_or, Contains, All, Option, sym, ◌∙◌, ap, subst, inl, inr, arith}
use Rattle.std.proofs.lemmas.List.{length-map, length-replicate}
use Rattle.std.proofs.lemmas.List.Elements.{All-nil}
use Rattle.std.proofs.lemmas.Option.{slice_get_within}
use Rattle.graph_core.specs.declared.edge.DepKind.{DepKind}
use Rattle.graph_core.specs.Metadata.{Graph, CrateNode, AreRising, ids_of, id_of_node}
use Rattle.graph_core.specs.declared.selection.standing.Standing.{Standing}
use Rattle.graph_core.specs.selection.Choice.{Choice}
use Rattle.graph_core.specs.selection.Roots.{IsRoot, crates_of, is_root}
use Rattle.graph_core.specs.selection.Places.{FrontierView, is_marked, is_root_standing, no_standing, nothing_seen, frontier_with, put_roots, standing_of, standings_in}
use Rattle.graph_core.proofs.selection.WalkLemmas.{reached-root}
use Rattle.graph_core.proofs.selection.PutLemmas.{put-counted, put-keeps, put-new, put-found, put-waits, put-waiting, put-within, true-false}
use Rattle.graph_core.proofs.selection.GraphPlaces.{node-at, standing-is, with-at, with-place}
use Rattle.graph_core.proofs.selection.UnderWay.{IdMarked, IsUnderWay}

-- the place of a root among the standings, of which the first has this place
pub record IsRootFrom (first : ℕ) (standings : List Standing) (place : ℕ) : Type 0 where
  pub index : ℕ
  pub within : index < length standings
  pub is_root : is_root_standing (slice_index_or standings index no_standing) ≡ true
  pub at : first + index ≡ place

module _ (n : ℕ) where
  abbrev next : ℕ → Standing → FrontierView → FrontierView
  next place standing seen = frontier_with place (is_root_standing standing) seen

  below : (place count : ℕ) (seen : FrontierView) → length seen.marks ≡ n → place + suc count ≡ n → place < length seen.marks
  below place count seen counted fits = omega arith

  pub roots-counted : (place : ℕ) (standings : List Standing) (seen : FrontierView) → length seen.marks ≡ n
      → length (put_roots place standings seen).marks ≡ n
  roots-counted place [] seen counted = counted
  roots-counted place (standing ∷ standings) seen counted =
      roots-counted (suc place) standings (next place standing seen) (put-counted place (is_root_standing standing) seen ∙ counted)

  pub roots-keep : (place : ℕ) (standings : List Standing) (seen : FrontierView) (q : ℕ) → length seen.marks ≡ n → place + length standings ≡ n
      → is_marked seen.marks q ≡ true → is_marked (put_roots place standings seen).marks q ≡ true
  roots-keep place [] seen q counted fits marked = marked
  roots-keep place (standing ∷ standings) seen q counted fits marked =
      roots-keep (suc place) standings (next place standing seen) q (put-counted place (is_root_standing standing) seen ∙ counted) (omega arith)
      (put-keeps place (is_root_standing standing) seen q (below place (length standings) seen counted fits) marked)

  pub roots-wait : (place : ℕ) (standings : List Standing) (seen : FrontierView) (q : ℕ) → Contains seen.waiting q
      → Contains (put_roots place standings seen).waiting q
  roots-wait place [] seen q waits = waits
  roots-wait place (standing ∷ standings) seen q waits =
      roots-wait (suc place) standings (next place standing seen) q (put-waits place (is_root_standing standing) seen q waits)

  pub roots-within : (place : ℕ) (standings : List Standing) (seen : FrontierView) → place + length standings ≡ n → All (λ q. q < n) seen.waiting
      → All (λ q. q < n) (put_roots place standings seen).waiting
  roots-within place [] seen fits within = within
  roots-within place (standing ∷ standings) seen fits within =
      roots-within (suc place) standings (next place standing seen) (omega arith)
      (put-within place (is_root_standing standing) seen n (omega arith) within)

  pub roots-waiting : (place : ℕ) (standings : List Standing) (seen : FrontierView) (q : ℕ) → length seen.marks ≡ n → place + length standings ≡ n
      → ((p : ℕ) → Contains seen.waiting p → is_marked seen.marks p ≡ true) → Contains (put_roots place standings seen).waiting q
      → is_marked (put_roots place standings seen).marks q ≡ true
  roots-waiting place [] seen q counted fits marked waits = marked q waits
  roots-waiting place (standing ∷ standings) seen q counted fits marked waits =
      roots-waiting (suc place) standings (next place standing seen) q (put-counted place (is_root_standing standing) seen ∙ counted) (omega arith)
      (λ p here. elim (put-waiting place (is_root_standing standing) seen p (below place (length standings) seen counted fits) here) [
        | inl before ↦ put-keeps place (is_root_standing standing) seen p (below place (length standings) seen counted fits) (marked p before)
        | inr now ↦ now
      ])
      waits

  pub roots-found : (place : ℕ) (standings : List Standing) (seen : FrontierView) (index : ℕ) → length seen.marks ≡ n → place + length standings ≡ n
      → index < length standings → is_root_standing (slice_index_or standings index no_standing) ≡ true
      → is_marked (put_roots place standings seen).marks (place + index) ≡ true
  roots-found place [] seen index counted fits within root = absurd (omega arith)
  roots-found place (standing ∷ standings) seen zero counted fits within root =
      roots-keep (suc place) standings (next place standing seen) (place + zero) (put-counted place (is_root_standing standing) seen ∙ counted) (omega arith)
      (let same : place ≡ place + zero = omega arith in
      subst (λ q. is_marked (next place standing seen).marks q ≡ true) same
      (put-found place (is_root_standing standing) seen (below place (length standings) seen counted fits) root))
  roots-found place (standing ∷ standings) seen (suc index) counted fits within root =
      let same : suc place + index ≡ place + suc index = omega arith in
      subst (λ q. is_marked (put_roots place (standing ∷ standings) seen).marks q ≡ true) same
      (roots-found (suc place) standings (next place standing seen) index (put-counted place (is_root_standing standing) seen ∙ counted) (omega arith) (omega arith) root)

  later : (place : ℕ) (standing : Standing) (standings : List Standing) (q : ℕ) → IsRootFrom (suc place) standings q
      → IsRootFrom place (standing ∷ standings) q
  later place standing standings q root = record {
    index = suc root.index;
    within = (let w : root.index < length standings = root.within in omega arith);
    is_root = root.is_root;
    at = (let a : suc place + root.index ≡ q = root.at in omega arith);
  }

  first-root : (place : ℕ) (standing : Standing) (standings : List Standing) (q : ℕ) → q ≡ place → is_root_standing standing ≡ true
      → IsRootFrom place (standing ∷ standings) q
  first-root place standing standings q same root = record { index = 0; within = omega arith; is_root = root; at = omega arith }

  pub roots-new : (place : ℕ) (standings : List Standing) (seen : FrontierView) (q : ℕ) → is_marked (put_roots place standings seen).marks q ≡ true
      → (is_marked seen.marks q ≡ true) ⊎ (IsRootFrom place standings q × Contains (put_roots place standings seen).waiting q)
  roots-new place [] seen q marked = inl marked
  roots-new place (standing ∷ standings) seen q marked =
      elim (roots-new (suc place) standings (next place standing seen) q marked) [
        | inr found ↦ inr (later place standing standings q found.0, found.1)
        | inl before ↦ elim (put-new place (is_root_standing standing) seen q before) [
          | inl first ↦ inl first
          | inr found ↦ inr (
            first-root place standing standings q found.0 found.1,
            roots-wait (suc place) standings (next place standing seen) q found.2,
          )
        ]
      ]

none-marked : (count place : ℕ) → is_marked (replicate count false) place ≡ true → ⊥
none-marked zero place marked = true-false (sym marked)
none-marked (suc count) zero marked = true-false (sym marked)
none-marked (suc count) (suc place) marked = none-marked count place marked

zero-plus : (n : ℕ) → 0 + n ≡ n
zero-plus n = omega arith

none-waits : (place : ℕ) → Contains [] place → ⊥
none-waits place (k, below, is) = absurd (omega arith)

module _ (graph : Graph) (choice : Choice) (named : Option DepKind) (rising : AreRising (ids_of graph)) where
  abbrev started : FrontierView
  started = put_roots 0 (standings_in graph choice) (nothing_seen (length graph.nodes))

  count-standings : length (standings_in graph choice) ≡ length graph.nodes
  count-standings = length-map (crates_of graph) (standing_of graph choice) ∙ length-map graph.nodes (λ (node : CrateNode). node.krate)

  empty-counted : length (nothing_seen (length graph.nodes)).marks ≡ length graph.nodes
  empty-counted = length-replicate (length graph.nodes) false

  fits : 0 + length (standings_in graph choice) ≡ length graph.nodes
  fits = let e = count-standings in omega arith

  root-at : (place : ℕ) → IsRootFrom 0 (standings_in graph choice) place → IsRoot graph choice (id_of_node graph place)
  root-at place root =
      let same : root.index ≡ place = (let a : 0 + root.index ≡ place = root.at in omega arith) in
      let within : root.index < length graph.nodes = subst (λ m. root.index < m) count-standings root.within in
      let there = node-at graph rising root.index within in
      subst (λ q. IsRoot graph choice (id_of_node graph q)) same
      (with-at graph rising (is_root graph choice) root.index there.0 there.1
      (sym (ap is_root_standing (standing-is graph rising choice root.index there.0 there.1)) ∙ root.is_root))

  cases : (place : ℕ) → is_marked started.marks place ≡ true → IsRootFrom 0 (standings_in graph choice) place × Contains started.waiting place
  cases place marked =
      elim (roots-new (length graph.nodes) 0 (standings_in graph choice) (nothing_seen (length graph.nodes)) place marked) [
        | inl before ↦ absurd (none-marked (length graph.nodes) place before)
        | inr found ↦ found
      ]

  roots-marked : (id : List ℕ) → IsRoot graph choice id → IdMarked graph started.marks id
  roots-marked id root =
      let found = with-place graph rising (is_root graph choice) id root in
      let within : found.0 < length graph.nodes = slice_get_within graph.nodes found.0 found.1 found.2 in (
        found.0,
        within,
        subst (λ place. is_marked started.marks place ≡ true) (zero-plus found.0)
            (roots-found (length graph.nodes) 0 (standings_in graph choice) (nothing_seen (length graph.nodes)) found.0 empty-counted fits
            (subst (λ m. found.0 < m) (sym count-standings) within)
            (ap is_root_standing (standing-is graph rising choice found.0 found.1 found.2) ∙ found.4)),
        found.3,
      )

  pub under-way-started : IsUnderWay graph choice named (put_roots 0 (standings_in graph choice) (nothing_seen (length graph.nodes)))
  under-way-started = record {
    counted = roots-counted (length graph.nodes) 0 (standings_in graph choice) (nothing_seen (length graph.nodes)) empty-counted;
    within = roots-within (length graph.nodes) 0 (standings_in graph choice) (nothing_seen (length graph.nodes)) fits (All-nil (λ q. q < length graph.nodes));
    marked = λ place waits. roots-waiting (length graph.nodes) 0 (standings_in graph choice) (nothing_seen (length graph.nodes)) place empty-counted fits
        (λ p none. absurd (none-waits p none)) waits;
    sound = λ place marked. reached-root graph choice named (id_of_node graph place) (root-at place (cases place marked).0);
    roots = roots-marked;
    pending = λ place marked. inl (cases place marked).1;
  }
