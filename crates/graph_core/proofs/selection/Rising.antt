-- Ids that rise strictly: no id is at two places, and the crate of an id is one.
use Rattle.std.proofs.Common.{◌≡◌, ℕ, zero, suc, ◌<◌, List, [], ◌∷◌, length, slice_get, slice_index_or, Contains, T, is_some, None, Some, option_map, unwrap_or, refl, sym, ◌∙◌, ap, subst, nat_cmp, arith}
use Rattle.std.specs.List.Sorted.{IsStrictlySortedBy}
use Rattle.std.specs.declared.cmp.Ordering.TheVariants.{Less, Equal}
use Rattle.std.specs.Cmp.{tied_itself}
use Rattle.std.specs.Cmp.Lexicographic.{slice_cmp, nat_list_cmp_total}
use Rattle.std.proofs.lemmas.List.{length-map}
use Rattle.std.proofs.lemmas.List.Elements.{All-from_recursion}
use Rattle.std.proofs.lemmas.Option.{slice_get-map, slice_get-get_or, slice_get_within, unwrap_or-slice_get}
use Rattle.graph_core.specs.Metadata.{Graph, CrateNode, AreRising, ids_of, id_of_node}

pub some_same : {A : Type 0} (x y : A) → Some x ≡ Some y → x ≡ y
some_same x y e = ap (λ o. unwrap_or o x) e

pub none_some : {A : Type 0} (x : A) → None ≡ Some x → ⊥
none_some x e = subst T (sym (ap is_some e)) tt

pub less-other : (x y : List ℕ) → slice_cmp nat_cmp x y ≡ Less → x ≡ y → ⊥
less-other x y less same =
    let both : Less ≡ Equal = sym less ∙ (ap (slice_cmp nat_cmp x) (sym same) ∙ tied_itself nat_list_cmp_total x) in cc

pub place-of-id : (ids : List (List ℕ)) → AreRising ids → (i j : ℕ) → i < length ids → j < length ids
    → slice_index_or ids i [] ≡ slice_index_or ids j [] → i ≡ j
unfolding IsStrictlySortedBy
place-of-id [] rising i j below within same = absurd (omega arith)
place-of-id (x ∷ xs) rising zero zero below within same = refl
place-of-id (x ∷ xs) rising zero (suc j) below within same =
    absurd (less-other x (slice_index_or xs j [])
    (All-from_recursion (λ y. slice_cmp nat_cmp x y ≡ Less) xs rising.0 j [] (omega arith)) same)
place-of-id (x ∷ xs) rising (suc i) zero below within same =
    absurd (less-other x (slice_index_or xs i [])
    (All-from_recursion (λ y. slice_cmp nat_cmp x y ≡ Less) xs rising.0 i [] (omega arith)) (sym same))
place-of-id (x ∷ xs) rising (suc i) (suc j) below within same =
    ap suc (place-of-id xs rising.1 i j (omega arith) (omega arith) same)

module _ (graph : Graph) (rising : AreRising (ids_of graph)) where
  length-ids : length (ids_of graph) ≡ length graph.nodes
  length-ids = length-map graph.nodes (λ node. node.krate.id)

  pub id-at : (place : ℕ) (node : CrateNode) → slice_get graph.nodes place ≡ Some node → id_of_node graph place ≡ node.krate.id
  id-at place node at =
      ap (λ o. unwrap_or o []) (slice_get-map (λ (n : CrateNode). n.krate.id) graph.nodes place
      ∙ ap (option_map (λ (n : CrateNode). n.krate.id)) at)

  -- no two places have one id
  pub one-place : (i j : ℕ) → i < length graph.nodes → j < length graph.nodes → id_of_node graph i ≡ id_of_node graph j → i ≡ j
  one-place i j below within same =
      place-of-id (ids_of graph) rising i j (subst (λ n. i < n) (sym length-ids) below) (subst (λ n. j < n) (sym length-ids) within)
      (sym (unwrap_or-slice_get (ids_of graph) i []) ∙ (same ∙ unwrap_or-slice_get (ids_of graph) j []))

  pub place-of-node : (node : CrateNode) → Contains graph.nodes node
      → (place : ℕ) × (place < length graph.nodes) × (slice_get graph.nodes place ≡ Some node)
  place-of-node node (place, below, at) =
      (place, below, slice_get-get_or graph.nodes place node below ∙ ap Some at)

  -- the node at a place is the one with its id
  pub one-node : (place : ℕ) (node other : CrateNode) → slice_get graph.nodes place ≡ Some node → Contains graph.nodes other
      → other.krate.id ≡ node.krate.id → other ≡ node
  one-node place node other at stands same =
      let found = place-of-node other stands in
      let here : found.0 ≡ place =
      one-place found.0 place found.1 (slice_get_within graph.nodes place node at)
      (id-at found.0 other found.2 ∙ (same ∙ sym (id-at place node at))) in
      some_same other node (sym found.2 ∙ (ap (slice_get graph.nodes) here ∙ at))
