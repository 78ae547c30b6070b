-- The crates that are marked are the list of those that have the property.
use Rattle.std.proofs.Common.{◌≡◌, ℕ, zero, suc, ◌+◌, ◌<◌, ◌&&◌, Bool, true, false, cond, List, [], ◌∷◌, map, filter, slice_get, Contains, All, Some, refl, sym, ◌∙◌, ap, subst, nat_cmp, arith}
use Rattle.std.specs.List.{AllByRecursion}
use Rattle.std.specs.List.Sorted.{IsStrictlySortedBy}
use Rattle.std.specs.Cmp.Lexicographic.{slice_cmp}
use Rattle.std.specs.declared.cmp.Ordering.TheVariants.{Less}
use Rattle.std.proofs.lemmas.List.{length-map}
use Rattle.std.proofs.lemmas.List.Elements.{All-from_recursion}
use Rattle.std.proofs.lemmas.Option.{slice_get_within, unwrap_or-slice_get, get_or_from_slice_get}
use Rattle.graph_core.specs.declared.krate.Krate.{Krate}
use Rattle.graph_core.specs.declared.edge.Kinds.{Kinds}
use Rattle.graph_core.specs.Krate.{CrateRecord, record_of, ids_in}
use Rattle.graph_core.specs.Metadata.{Graph, CrateNode, AreRising, ids_of, id_of_node}
use Rattle.graph_core.specs.selection.Roots.{crates_of}
use Rattle.graph_core.specs.selection.Listed.{IsListOf, ReachedCrate, crates_in, listed_crates}
use Rattle.graph_core.specs.selection.Places.{AreMarksOf, is_marked, marked_items, kinds_at, kinds_kept}
use Rattle.graph_core.proofs.selection.GraphPlaces.{within-some}
use Rattle.graph_core.proofs.selection.PutLemmas.{true-false}
use Rattle.graph_core.proofs.selection.Rising.{none_some, some_same}

-- ---- of any list

module _ {A : Type 0} (P : A → Type 0) where
  kept-one : (mark : Bool) (x : A) (xs : List A) (marks : List Bool) → P x → AllByRecursion P (marked_items xs marks)
      → AllByRecursion P (cond mark (x ∷ marked_items xs marks) (marked_items xs marks))
  kept-one true x xs marks h rest = (h, rest)
  kept-one false x xs marks h rest = rest

  kept-all : (xs : List A) (marks : List Bool) → AllByRecursion P xs → AllByRecursion P (marked_items xs marks)
  kept-all [] marks h = tt
  kept-all (x ∷ xs) [] h = tt
  kept-all (x ∷ xs) (mark ∷ marks) h = kept-one mark x xs marks h.0 (kept-all xs marks h.1)

  -- what holds of each marked item holds of those that are kept
  marked-one : (mark : Bool) (x : A) (xs : List A) (marks : List Bool) → (mark ≡ true → P x) → AllByRecursion P (marked_items xs marks)
      → AllByRecursion P (cond mark (x ∷ marked_items xs marks) (marked_items xs marks))
  marked-one true x xs marks h rest = (h refl, rest)
  marked-one false x xs marks h rest = rest

  pub kept-marked : (xs : List A) (marks : List Bool) → ((i : ℕ) (x : A) → slice_get xs i ≡ Some x → is_marked marks i ≡ true → P x)
      → AllByRecursion P (marked_items xs marks)
  kept-marked [] marks h = tt
  kept-marked (x ∷ xs) [] h = tt
  kept-marked (x ∷ xs) (mark ∷ marks) h =
      marked-one mark x xs marks (h zero x refl) (kept-marked xs marks (λ i y at marked. h (suc i) y at marked))

pub kept-map : {A B : Type 0} (f : A → B) (xs : List A) (marks : List Bool) → map f (marked_items xs marks) ≡ marked_items (map f xs) marks
kept-map f [] marks = refl
kept-map f (x ∷ xs) [] = refl
kept-map f (x ∷ xs) (true ∷ marks) = ap (λ rest. f x ∷ rest) (kept-map f xs marks)
kept-map f (x ∷ xs) (false ∷ marks) = kept-map f xs marks

first-contains : {A : Type 0} (x : A) (xs : List A) → Contains (x ∷ xs) x
first-contains x xs = (0, omega arith, refl)

later-contains : {A : Type 0} (first : A) (xs : List A) (x : A) → Contains xs x → Contains (first ∷ xs) x
later-contains first xs x (k, below, is) = (suc k, omega arith, is)

-- a marked item is kept
pub kept-contains : {A : Type 0} (xs : List A) (marks : List Bool) (i : ℕ) (x : A) → slice_get xs i ≡ Some x → is_marked marks i ≡ true
    → Contains (marked_items xs marks) x
kept-contains [] marks i x at marked = absurd (none_some x at)
kept-contains (y ∷ xs) [] i x at marked = absurd (true-false (sym marked))
kept-contains (y ∷ xs) (true ∷ marks) zero x at marked =
    subst (Contains (y ∷ marked_items xs marks)) (some_same y x at) (first-contains y (marked_items xs marks))
kept-contains (y ∷ xs) (false ∷ marks) zero x at marked = absurd (true-false (sym marked))
kept-contains (y ∷ xs) (true ∷ marks) (suc i) x at marked = later-contains y (marked_items xs marks) x (kept-contains xs marks i x at marked)
kept-contains (y ∷ xs) (false ∷ marks) (suc i) x at marked = kept-contains xs marks i x at marked

-- ids that rise still do
rising-one : (mark : Bool) (id : List ℕ) (ids : List (List ℕ)) (marks : List Bool)
    → AllByRecursion (λ other. slice_cmp nat_cmp id other ≡ Less) (marked_items ids marks) → AreRising (marked_items ids marks)
    → AreRising (cond mark (id ∷ marked_items ids marks) (marked_items ids marks))
unfolding IsStrictlySortedBy
rising-one true id ids marks below rest = (below, rest)
rising-one false id ids marks below rest = rest

pub kept-rising : (ids : List (List ℕ)) (marks : List Bool) → AreRising ids → AreRising (marked_items ids marks)
unfolding IsStrictlySortedBy
kept-rising [] marks h = tt
kept-rising (id ∷ ids) [] h = tt
kept-rising (id ∷ ids) (mark ∷ marks) h =
    rising-one mark id ids marks (kept-all (λ other. slice_cmp nat_cmp id other ≡ Less) ids marks h.0) (kept-rising ids marks h.1)

-- ---- of a graph

ids-crates : {A : Type 0} (f : A → CrateRecord) (xs : List A) → ids_in (map f xs) ≡ map (λ x. (f x).id) xs
ids-crates f [] = refl
ids-crates f (x ∷ xs) = ap (λ rest. (f x).id ∷ rest) (ids-crates f xs)

module _ (graph : Graph) (rising : AreRising (ids_of graph)) (Has : List ℕ → Type 0) (marks : List Bool)
    (are : AreMarksOf graph Has marks) where
  ids-are : ids_in (crates_of graph) ≡ ids_of graph
  ids-are = ids-crates (λ (node : CrateNode). node.krate) graph.nodes

  ids-kept : ids_in (marked_items (crates_of graph) marks) ≡ marked_items (ids_of graph) marks
  ids-kept = kept-map (λ (krate : CrateRecord). krate.id) (crates_of graph) marks ∙ ap (λ ids. marked_items ids marks) ids-are

  id-is : (place : ℕ) (id : List ℕ) → slice_get (ids_of graph) place ≡ Some id → id_of_node graph place ≡ id
  id-is place id at = unwrap_or-slice_get (ids_of graph) place [] ∙ get_or_from_slice_get (ids_of graph) place id [] at

  whole-at : (id : List ℕ) → Has id → Contains (ids_in (marked_items (crates_of graph) marks)) id
  whole-at id has =
      let found = are.whole id has in
      let there = within-some (ids_of graph) found.0 (subst (λ m. found.0 < m) (sym (length-map graph.nodes (λ (node : CrateNode). node.krate.id))) found.1) in
      let same : there.0 ≡ id = sym (id-is found.0 there.0 there.1) ∙ found.3 in
      subst (λ ids. Contains ids id) (sym ids-kept)
      (subst (Contains (marked_items (ids_of graph) marks)) same (kept-contains (ids_of graph) marks found.0 there.0 there.1 found.2))

  stands : (place : ℕ) (krate : CrateRecord) → slice_get (crates_of graph) place ≡ Some krate → Contains (crates_of graph) krate
  stands place krate at =
      (place, slice_get_within (crates_of graph) place krate at, get_or_from_slice_get (crates_of graph) place krate krate at)

  pub kept-lists : IsListOf graph Has (marked_items (crates_of graph) marks)
  kept-lists = record {
    rising = subst AreRising (sym ids-kept) (kept-rising (ids_of graph) marks rising);
    sound = subst (All Has) (sym ids-kept)
        (All-from_recursion Has (marked_items (ids_of graph) marks)
        (kept-marked Has (ids_of graph) marks (λ place id at marked. subst Has (id-is place id at) (are.sound place marked))));
    whole = whole-at;
    records = All-from_recursion (Contains (crates_of graph)) (marked_items (crates_of graph) marks)
        (kept-marked (Contains (crates_of graph)) (crates_of graph) marks (λ place krate at marked. stands place krate at));
  }

-- ---- crates with the kinds without which they are reached

-- marks of those of the marked places whose kinds pass the test
abbrev pub passing : (Kinds → Bool) → List Bool → List Bool → List Bool → ℕ → List Bool → List Bool
passing test normal dev build place [] = []
passing test normal dev build place (mark ∷ marks) =
    (mark && test (kinds_at normal dev build place)) ∷ passing test normal dev build (suc place) marks

module _ (test : Kinds → Bool) (normal dev build : List Bool) where
  one-item : (b : Bool) (krate : Krate) (kinds : Kinds) (items : List ReachedCrate) (rest : List CrateRecord) → test kinds ≡ b
      → crates_in (filter (λ (item : ReachedCrate). test item.without) items) ≡ rest
      → crates_in (filter (λ (item : ReachedCrate). test item.without) (record { krate = record_of krate; without = kinds } ∷ items))
      ≡ cond b (record_of krate ∷ rest) rest
  one-item true krate kinds items rest is e =
      ap (λ b. crates_in (cond b (record { krate = record_of krate; without = kinds } ∷ filter (λ (item : ReachedCrate). test item.without) items) (filter (λ (item : ReachedCrate). test item.without) items))) is
      ∙ ap (λ more. record_of krate ∷ more) e
  one-item false krate kinds items rest is e =
      ap (λ b. crates_in (cond b (record { krate = record_of krate; without = kinds } ∷ filter (λ (item : ReachedCrate). test item.without) items) (filter (λ (item : ReachedCrate). test item.without) items))) is
      ∙ e

  pub items-passing : (crates : List Krate) (place : ℕ) (marks : List Bool)
      → crates_in (filter (λ (item : ReachedCrate). test item.without) (listed_crates (marked_items crates marks) (kinds_kept normal dev build place marks)))
      ≡ marked_items (map record_of crates) (passing test normal dev build place marks)
  items-passing [] place [] = refl
  items-passing [] place (true ∷ marks) = refl
  items-passing [] place (false ∷ marks) = items-passing [] (suc place) marks
  items-passing (krate ∷ crates) place [] = refl
  items-passing (krate ∷ crates) place (true ∷ marks) =
      one-item (test (kinds_at normal dev build place)) krate (kinds_at normal dev build place)
      (listed_crates (marked_items crates marks) (kinds_kept normal dev build (suc place) marks))
      (marked_items (map record_of crates) (passing test normal dev build (suc place) marks)) refl (items-passing crates (suc place) marks)
  items-passing (krate ∷ crates) place (false ∷ marks) = items-passing crates (suc place) marks

  pub passing-at : (first : ℕ) (marks : List Bool) (i : ℕ)
      → is_marked (passing test normal dev build first marks) i ≡ (is_marked marks i && test (kinds_at normal dev build (first + i)))
  passing-at first [] i = refl
  passing-at first (mark ∷ marks) zero = ap (λ place. mark && test (kinds_at normal dev build place)) (omega arith)
  passing-at first (mark ∷ marks) (suc i) =
      passing-at (suc first) marks i
      ∙ ap (λ place. is_marked marks i && test (kinds_at normal dev build place)) (omega arith)

pub items-all : (crates : List Krate) (without : List Kinds) → crates_in (listed_crates crates without) ≡ map record_of crates
items-all [] without = refl
items-all (krate ∷ crates) [] = ap (λ rest. record_of krate ∷ rest) (items-all crates [])
items-all (krate ∷ crates) (kinds ∷ without) = ap (λ rest. record_of krate ∷ rest) (items-all crates without)
