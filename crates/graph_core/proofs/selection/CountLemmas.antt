-- The base roots are those that specs exclude, those of the others that are left out as unpublished, and the roots.
use Rattle.std.proofs.Common.{◌≡◌, ℕ, zero, suc, ◌+◌, ◌<◌, ◌&&◌, ◌||◌, not, Bool, true, false, cond, List, [], ◌∷◌, map, length, filter, count_by, slice_get, Some, option_map, Ok, Err, inl, inr, refl, sym, ◌∙◌, ap, subst, arith}
use Rattle.std.specs.List.{list_any}
use Rattle.std.proofs.lemmas.Bool.{cases_Bool}
use Rattle.std.proofs.lemmas.List.Sums.{length-filter}
use Rattle.std.proofs.lemmas.Option.{slice_get-map, slice_get_within}
use Rattle.std.proofs.lemmas.List.{length-map}
use Rattle.graph_core.specs.Metadata.{Graph, CrateNode, AreRising, ids_of, id_of_node}
use Rattle.graph_core.specs.declared.selection.selection.BuildError.{BuildError}
use Rattle.graph_core.specs.declared.selection.selection.BuildError.TheVariants.{NoRoots}
use Rattle.graph_core.specs.declared.selection.standing.Standing.{Standing}
use Rattle.graph_core.specs.selection.Choice.{Choice}
use Rattle.graph_core.specs.selection.Roots.{HasRoot, IsRootsCause, LacksRoots, crates_of, is_root}
use Rattle.graph_core.specs.selection.Places.{is_excluded_standing, is_root_standing, is_unpublished_standing, root_needed, standing_of, standings_in}
use Rattle.graph_core.proofs.selection.GraphPlaces.{with-at, with-place, within-some}
use Rattle.graph_core.proofs.selection.PutLemmas.{true-false}
use Rattle.graph_core.proofs.selection.Rising.{none_some, some_same}

module _ {A : Type 0} where
  -- how many pass, by recursion
  abbrev pub number : (A → Bool) → List A → ℕ
  number test [] = 0
  number test (x ∷ xs) = cond (test x) (suc (number test xs)) (number test xs)

  length-if : (b : Bool) (x : A) (xs : List A) → length (cond b (x ∷ xs) xs) ≡ cond b (suc (length xs)) (length xs)
  length-if true x xs = refl
  length-if false x xs = refl

  number-filter : (test : A → Bool) (xs : List A) → number test xs ≡ length (filter test xs)
  number-filter test [] = refl
  number-filter test (x ∷ xs) =
      ap (λ n. cond (test x) (suc n) n) (number-filter test xs) ∙ sym (length-if (test x) x (filter test xs))

  pub number-is : (test : A → Bool) (xs : List A) → number test xs ≡ count_by test xs
  number-is test xs = number-filter test xs ∙ length-filter test xs

-- each crate that would be a root is excluded, or else unpublished, or else a root
one-of-three : (base excluded unpublished : Bool) (b e u r : ℕ) → b ≡ (e + u) + r
    → cond base (suc b) b
    ≡ (cond (base && excluded) (suc e) e + cond (base && (not excluded && unpublished)) (suc u) u)
    + cond (base && (not excluded && not unpublished)) (suc r) r
one-of-three false excluded unpublished b e u r sum = sum
one-of-three true true unpublished b e u r sum = omega arith
one-of-three true false true b e u r sum = omega arith
one-of-three true false false b e u r sum = omega arith

base-sum : (standings : List Standing) → number (λ (s : Standing). s.base) standings
    ≡ (number is_excluded_standing standings + number is_unpublished_standing standings) + number is_root_standing standings
base-sum [] = refl
base-sum (s ∷ standings) =
    one-of-three s.base s.excluded s.unpublished (number (λ (t : Standing). t.base) standings) (number is_excluded_standing standings)
    (number is_unpublished_standing standings) (number is_root_standing standings) (base-sum standings)

none-one : {A : Type 0} (test : A → Bool) (x : A) (xs : List A) (b : Bool) → test x ≡ b → (b || list_any test xs) ≡ false
    → (list_any test xs ≡ false → number test xs ≡ 0) → cond (test x) (suc (number test xs)) (number test xs) ≡ 0
none-one test x xs true is none rest = absurd (true-false none)
none-one test x xs false is none rest = ap (λ b. cond b (suc (number test xs)) (number test xs)) is ∙ rest none

none-passes : {A : Type 0} (test : A → Bool) (xs : List A) → list_any test xs ≡ false → number test xs ≡ 0
none-passes test [] none = refl
none-passes test (x ∷ xs) none = none-one test x xs (test x) refl none (none-passes test xs)

-- the numbers of the standings are those of the crates
number-map : {A B : Type 0} (f : A → B) (test : B → Bool) (xs : List A) → number test (map f xs) ≡ number (λ x. test (f x)) xs
number-map f test [] = refl
number-map f test (x ∷ xs) = ap (λ n. cond (test (f x)) (suc n) n) (number-map f test xs)

pub count-map : {A B : Type 0} (f : A → B) (test : B → Bool) (xs : List A) → count_by test (map f xs) ≡ count_by (λ x. test (f x)) xs
count-map f test xs = sym (number-is test (map f xs)) ∙ (number-map f test xs ∙ number-is (λ x. test (f x)) xs)

no-first : (a b : Bool) → (a || b) ≡ false → a ≡ false
no-first true b none = none
no-first false b none = refl

no-rest : (a b : Bool) → (a || b) ≡ false → b ≡ false
no-rest true b none = absurd (true-false none)
no-rest false b none = none

no-other : {A : Type 0} (test : A → Bool) (xs : List A) → list_any test xs ≡ false → (k : ℕ) (x : A) → slice_get xs k ≡ Some x → test x ≡ false
no-other test [] none k x at = absurd (none_some x at)
no-other test (y ∷ xs) none zero x at = ap test (sym (some_same y x at)) ∙ no-first (test y) (list_any test xs) none
no-other test (y ∷ xs) none (suc k) x at = no-other test xs (no-rest (test y) (list_any test xs) none) k x at

some-one : {A : Type 0} (test : A → Bool) (x : A) (xs : List A) (b : Bool) → test x ≡ b → (b || list_any test xs) ≡ true
    → (list_any test xs ≡ true → (k : ℕ) × (y : A) × (slice_get xs k ≡ Some y) × (test y ≡ true))
    → (k : ℕ) × (y : A) × (slice_get (x ∷ xs) k ≡ Some y) × (test y ≡ true)
some-one test x xs true is some rest = (zero, x, refl, is)
some-one test x xs false is some rest = let found = rest some in (suc found.0, found.1, found.2, found.3)

some-other : {A : Type 0} (test : A → Bool) (xs : List A) → list_any test xs ≡ true → (k : ℕ) × (x : A) × (slice_get xs k ≡ Some x) × (test x ≡ true)
some-other test [] some = absurd (true-false (sym some))
some-other test (x ∷ xs) some = some-one test x xs (test x) refl some (some-other test xs)

module _ (graph : Graph) (choice : Choice) (rising : AreRising (ids_of graph)) where
  -- the standing of a node's crate is at the node's place
  standing-at : (place : ℕ) (node : CrateNode) → slice_get graph.nodes place ≡ Some node
      → slice_get (standings_in graph choice) place ≡ Some (standing_of graph choice node.krate)
  standing-at place node at =
      slice_get-map (standing_of graph choice) (crates_of graph) place
      ∙ ap (option_map (standing_of graph choice))
      (slice_get-map (λ (n : CrateNode). n.krate) graph.nodes place ∙ ap (option_map (λ (n : CrateNode). n.krate)) at)

  no-root : list_any is_root_standing (standings_in graph choice) ≡ false → HasRoot graph choice → ⊥
  no-root none root =
      let found = with-place graph rising (is_root graph choice) root.0 root.1 in
      true-false (sym found.4 ∙ no-other is_root_standing (standings_in graph choice) none found.0 (standing_of graph choice found.1.krate)
      (standing-at found.0 found.1 found.2))

  root-of : (place : ℕ) (standing : Standing) → slice_get (standings_in graph choice) place ≡ Some standing → is_root_standing standing ≡ true
      → HasRoot graph choice
  root-of place standing at is =
      let within : place < length graph.nodes =
      subst (λ m. place < m) (length-map (crates_of graph) (standing_of graph choice) ∙ length-map graph.nodes (λ (n : CrateNode). n.krate))
      (slice_get_within (standings_in graph choice) place standing at) in
      let there = within-some graph.nodes place within in
      let same : standing ≡ standing_of graph choice there.0.krate =
      some_same standing (standing_of graph choice there.0.krate) (sym at ∙ standing-at place there.0 there.1) in
      (id_of_node graph place, with-at graph rising (is_root graph choice) place there.0 there.1 (sym (ap is_root_standing same) ∙ is))

  three-sum : list_any is_root_standing (standings_in graph choice) ≡ false
      → count_by (λ (s : Standing). s.base) (standings_in graph choice)
      ≡ count_by is_excluded_standing (standings_in graph choice) + count_by is_unpublished_standing (standings_in graph choice)
  three-sum none =
      let sum = base-sum (standings_in graph choice) in
      let zero_roots = none-passes is_root_standing (standings_in graph choice) none in
      let base = number-is (λ (s : Standing). s.base) (standings_in graph choice) in
      let excluded = number-is is_excluded_standing (standings_in graph choice) in
      let unpublished = number-is is_unpublished_standing (standings_in graph choice) in
      omega arith

  pub has-root : list_any is_root_standing (standings_in graph choice) ≡ true → HasRoot graph choice
  has-root some =
      let found = some-other is_root_standing (standings_in graph choice) some in
      root-of found.0 found.1 found.2 found.3

  pub lacks-roots : list_any is_root_standing (standings_in graph choice) ≡ false
      → LacksRoots graph choice (count_by (λ (s : Standing). s.base) (standings_in graph choice))
      (count_by is_excluded_standing (standings_in graph choice)) (count_by is_unpublished_standing (standings_in graph choice))
  lacks-roots none = record {
    none = λ root. no-root none root;
    sum = three-sum none;
    base_roots = count-map (standing_of graph choice) (λ (s : Standing). s.base) (crates_of graph);
    excluded_roots = count-map (standing_of graph choice) is_excluded_standing (crates_of graph);
    unpublished_roots = count-map (standing_of graph choice) is_unpublished_standing (crates_of graph);
  }

-- ---- what is answered where a root is needed

module _ (graph : Graph) (choice : Choice) (rising : AreRising (ids_of graph)) (standings : List Standing)
    (told : standings ≡ standings_in graph choice) where
  abbrev refusal : BuildError
  refusal =
      NoRoots (count_by (λ (s : Standing). s.base) standings) (count_by is_excluded_standing standings)
      (count_by is_unpublished_standing standings)

  answer-is : (b : Bool) → list_any is_root_standing standings ≡ b → root_needed standings ≡ cond b (Ok tt) (Err refusal)
  answer-is b is = ap (λ some. cond some (Ok tt) (Err refusal)) is

  pub needed-ok : root_needed standings ≡ Ok tt → HasRoot graph choice
  needed-ok e =
      elim (cases_Bool (list_any is_root_standing standings)) [
        | inl some ↦ has-root graph choice rising (subst (λ all. list_any is_root_standing all ≡ true) told some)
        | inr none ↦ (let is = answer-is false none in cc)
      ]

  lacks : list_any is_root_standing standings ≡ false → IsRootsCause graph choice refusal
  lacks none =
      subst (λ all. LacksRoots graph choice (count_by (λ (s : Standing). s.base) all) (count_by is_excluded_standing all)
      (count_by is_unpublished_standing all)) (sym told)
      (lacks-roots graph choice rising (subst (λ all. list_any is_root_standing all ≡ false) told none))

  pub needed-err : (error : BuildError) → root_needed standings ≡ Err error → IsRootsCause graph choice error
  needed-err error e =
      elim (cases_Bool (list_any is_root_standing standings)) [
        | inl some ↦ (let is = answer-is true some in cc)
        | inr none ↦
            let is = answer-is false none in
            let same : refusal ≡ error = cc in
            subst (IsRootsCause graph choice) same (lacks none)
      ]
