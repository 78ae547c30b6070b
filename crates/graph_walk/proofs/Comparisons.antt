-- A walk that is before another as it is written backwards is also before it from the root on, if it is as long.
use Rattle.std.proofs.Common.{◌≡◌, ℕ, zero, suc, ◌<◌, List, [], ◌∷◌, ◌++◌, length, slice_index_or, IsTrue, refl, sym, ◌∙◌, ap, subst, inl, inr, nat_cmp, is_le, Ordering, Less, Equal, Greater, arith}
use Rattle.std.specs.List.{AllByRecursion}
use Rattle.std.specs.Ordering.{ordering_then}
use Rattle.std.specs.List.Sorted.{IsStrictlySortedBy}
use Rattle.std.specs.Cmp.{tied_itself}
use Rattle.std.specs.Cmp.Lexicographic.{slice_cmp, nat_list_cmp_total}
use Rattle.std.proofs.lemmas.List.{length-map}
use Rattle.std.proofs.lemmas.List.Elements.{All-from_recursion}
use Rattle.std.proofs.lemmas.Option.{unwrap_or-slice_get}
use Rattle.graph_core.specs.Metadata.{Graph, AreRising, ids_of, id_of_node}
use Rattle.graph_walk.specs.Shortest.{walk_order}
use Rattle.graph_walk.proofs.Backwards.{IsBefore, IsUpTo, shown, length-shown}

then-less : (o p q : Ordering) → (p ≡ Less → q ≡ Less) → ordering_then o p ≡ Less → ordering_then o q ≡ Less
then-less Less p q h e = refl
then-less Equal p q h e = h e
then-less Greater p q h e = absurd (let wrong : Greater ≡ Less = e in cc)

then-tied : (o p : Ordering) → o ≡ Equal → ordering_then o p ≡ p
then-tied o p e = ap (λ first. ordering_then first p) e

module _ {A : Type 0} (cmp : A → A → Ordering) where
  -- what is before another of its length stays before it, whatever comes behind
  pub less-append : (us vs ws xs : List A) → length us ≡ length vs → slice_cmp cmp us vs ≡ Less
      → slice_cmp cmp (us ++ ws) (vs ++ xs) ≡ Less
  less-append [] [] ws xs long less = absurd (let wrong : Equal ≡ Less = less in cc)
  less-append [] (b ∷ vs) ws xs long less = absurd (omega arith)
  less-append (a ∷ us) [] ws xs long less = absurd (omega arith)
  less-append (a ∷ us) (b ∷ vs) ws xs long less =
      let rest : length us ≡ length vs = omega arith in
      then-less (cmp a b) (slice_cmp cmp us vs) (slice_cmp cmp (us ++ ws) (vs ++ xs))
      (λ e. less-append us vs ws xs rest e) less

  pub same-append : ((a : A) → cmp a a ≡ Equal) → (us ws xs : List A)
      → slice_cmp cmp (us ++ ws) (us ++ xs) ≡ slice_cmp cmp ws xs
  same-append tied [] ws xs = refl
  same-append tied (a ∷ us) ws xs =
      then-tied (cmp a a) (slice_cmp cmp (us ++ ws) (us ++ xs)) (tied a) ∙ same-append tied us ws xs

  pub same-equal : ((a : A) → cmp a a ≡ Equal) → (us : List A) → slice_cmp cmp us us ≡ Equal
  same-equal tied [] = refl
  same-equal tied (a ∷ us) = then-tied (cmp a a) (slice_cmp cmp us us) (tied a) ∙ same-equal tied us

-- ---- ids

ids-rise : (ids : List (List ℕ)) → AreRising ids → (i j : ℕ) → i < j → j < length ids
    → slice_cmp nat_cmp (slice_index_or ids i []) (slice_index_or ids j []) ≡ Less
unfolding IsStrictlySortedBy
ids-rise [] rising i j below within = absurd (omega arith)
ids-rise (x ∷ xs) rising i zero below within = absurd (omega arith)
ids-rise (x ∷ xs) rising zero (suc j) below within =
    All-from_recursion (λ y. slice_cmp nat_cmp x y ≡ Less) xs rising.0 j [] (omega arith)
ids-rise (x ∷ xs) rising (suc i) (suc j) below within = ids-rise xs rising.1 i j (omega arith) (omega arith)

module _ (graph : Graph) (rising : AreRising (ids_of graph)) where
  pub id-before : (i j : ℕ) → i < j → j < length graph.nodes
      → slice_cmp nat_cmp (id_of_node graph i) (id_of_node graph j) ≡ Less
  id-before i j below within =
      let within_ids : j < length (ids_of graph) = subst (λ n. j < n) (sym (length-map graph.nodes (λ node. node.krate.id))) within in
      ap (λ id. slice_cmp nat_cmp id (id_of_node graph j)) (unwrap_or-slice_get (ids_of graph) i [])
      ∙ (ap (λ id. slice_cmp nat_cmp (slice_index_or (ids_of graph) i []) id) (unwrap_or-slice_get (ids_of graph) j [])
      ∙ ids-rise (ids_of graph) rising i j below within_ids)

  abbrev pub ids_from_root : List ℕ → List (List ℕ)
  ids_from_root walk = shown (id_of_node graph) walk

  long-as : (xs ys : List ℕ) → length xs ≡ length ys → length (ids_from_root xs) ≡ length (ids_from_root ys)
  long-as xs ys long = length-shown (id_of_node graph) xs ∙ (long ∙ sym (length-shown (id_of_node graph) ys))

  pub before-less : (xs ys : List ℕ) → AllByRecursion (λ place. place < length graph.nodes) ys → length xs ≡ length ys
      → IsBefore xs ys → walk_order (ids_from_root xs) (ids_from_root ys) ≡ Less
  before-less [] [] within long before = absurd before
  before-less [] (y ∷ ys) within long before = absurd (omega arith)
  before-less (x ∷ xs) [] within long before = absurd before
  before-less (x ∷ xs) (y ∷ ys) within long before =
      let rest : length xs ≡ length ys = omega arith in
      elim before [
        | inl earlier ↦ less-append (slice_cmp nat_cmp) (ids_from_root xs) (ids_from_root ys) (id_of_node graph x ∷ []) (id_of_node graph y ∷ [])
            (long-as xs ys rest) (before-less xs ys within.1 rest earlier)
        | inr last ↦
            ap (λ walk. walk_order (ids_from_root walk ++ id_of_node graph x ∷ []) (ids_from_root ys ++ id_of_node graph y ∷ [])) last.0
            ∙ (same-append (slice_cmp nat_cmp) (tied_itself nat_list_cmp_total) (ids_from_root ys) (id_of_node graph x ∷ []) (id_of_node graph y ∷ [])
            ∙ ap (λ (o : Ordering). ordering_then o Equal) (id-before x y last.1 within.0))
      ]

  less-le : (o : Ordering) → o ≡ Less → IsTrue (is_le o)
  less-le o e = ap is_le e

  equal-le : (o : Ordering) → o ≡ Equal → IsTrue (is_le o)
  equal-le o e = ap is_le e

  pub upto-le : (xs ys : List ℕ) → AllByRecursion (λ place. place < length graph.nodes) ys → length xs ≡ length ys
      → IsUpTo xs ys → IsTrue (is_le (walk_order (ids_from_root xs) (ids_from_root ys)))
  upto-le xs ys within long upto =
      elim upto [
        | inl before ↦ less-le (walk_order (ids_from_root xs) (ids_from_root ys)) (before-less xs ys within long before)
        | inr same ↦ equal-le (walk_order (ids_from_root xs) (ids_from_root ys))
            (ap (λ walk. walk_order (ids_from_root walk) (ids_from_root ys)) same
            ∙ same-equal (slice_cmp nat_cmp) (tied_itself nat_list_cmp_total) (ids_from_root ys))
      ]
