-- What is among the new ends of edges and among the roots, and that places in order ascend.
use Rattle.std.proofs.Common.{◌≡◌, ℕ, zero, suc, ◌+◌, ◌<◌, ◌≤◌, Bool, true, false, cond, List, [], ◌∷◌, length, slice_index_or, Contains, All, IsSorted, refl, ◌∙◌, ap, subst, nat_cmp, arith}
use Rattle.std.specs.List.{AllByRecursion}
use Rattle.std.proofs.lemmas.List.Elements.{All-contains, All-from_get_or, All-from_recursion, All-contains_itself, All-weaker, recursion_from_All}
use Rattle.std.proofs.lemmas.List.Sorted.{IsNonDecreasingBy-from_sort}
use Rattle.graph_core.specs.declared.edge.Edge.{Edge}
use Rattle.graph_core.specs.declared.edge.Kinds.{Kinds}
use Rattle.graph_core.specs.Metadata.{LeadWithin}
use Rattle.graph_core.specs.declared.selection.standing.Standing.{Standing}
use Rattle.graph_core.specs.selection.Places.{is_root_standing, no_standing}
use Rattle.graph_walk.specs.Search.{SearchView, is_new_end, new_ends, roots_from}
use Rattle.graph_walk.proofs.PutLemmas.{AreAscending}

contains-first : {X : Type 0} (x : X) (xs : List X) → Contains (x ∷ xs) x
contains-first x xs = (0, omega arith, refl)

contains-later : {X : Type 0} (y : X) (xs : List X) (x : X) → Contains xs x → Contains (y ∷ xs) x
contains-later y xs x (k, below, is) = (suc k, omega arith, is)

contains-if : {X : Type 0} (b : Bool) (y : X) (xs : List X) (x : X) → Contains xs x → Contains (cond b (y ∷ xs) xs) x
contains-if true y xs x one = contains-later y xs x one
contains-if false y xs x one = one

contains-put : {X : Type 0} (b : Bool) (y : X) (xs : List X) → b ≡ true → Contains (cond b (y ∷ xs) xs) y
contains-put true y xs is = contains-first y xs
contains-put false y xs is = absurd (let wrong : false ≡ true = is in cc)

pub all-by-one : {X : Type 0} (P : X → Type 0) (xs : List X) → ((x : X) → Contains xs x → P x) → AllByRecursion P xs
all-by-one P xs each = recursion_from_All P xs (All-weaker (Contains xs) P each xs (All-contains_itself xs))

-- ---- new ends

pub record IsNewEnd (seen : SearchView) (standings : List Standing) (counting : Kinds) (edges : List Edge) (place : ℕ) : Type 0 where
  pub edge : Edge
  pub one : Contains edges edge
  pub new : is_new_end seen standings counting edge ≡ true
  pub leads : edge.to ≡ place

module _ (seen : SearchView) (standings : List Standing) (counting : Kinds) where
  pub new-end-in : (edges : List Edge) (edge : Edge) → Contains edges edge → is_new_end seen standings counting edge ≡ true
      → Contains (new_ends seen standings counting edges) edge.to
  new-end-in [] edge (k, below, is) new = absurd (omega arith)
  new-end-in (first ∷ edges) edge (zero, below, is) new =
      subst (λ (e : Edge). Contains (new_ends seen standings counting (first ∷ edges)) e.to) is
      (contains-put (is_new_end seen standings counting first) first.to (new_ends seen standings counting edges)
      (ap (is_new_end seen standings counting) is ∙ new))
  new-end-in (first ∷ edges) edge (suc k, below, is) new =
      contains-if (is_new_end seen standings counting first) first.to (new_ends seen standings counting edges) edge.to
      (new-end-in edges edge (k, omega arith, is) new)

  end-later : (first : Edge) (edges : List Edge) (place : ℕ) → IsNewEnd seen standings counting edges place
      → IsNewEnd seen standings counting (first ∷ edges) place
  end-later first edges place found =
      record { edge = found.edge; one = contains-later first edges found.edge found.one; new = found.new; leads = found.leads }

  end-first : (first : Edge) (edges : List Edge) (place : ℕ) → is_new_end seen standings counting first ≡ true → first.to ≡ place
      → IsNewEnd seen standings counting (first ∷ edges) place
  end-first first edges place new leads = record { edge = first; one = contains-first first edges; new = new; leads = leads }

  new-end-by : (first : Edge) (edges : List Edge) (place : ℕ) (b : Bool) → is_new_end seen standings counting first ≡ b
      → (Contains (new_ends seen standings counting edges) place → IsNewEnd seen standings counting edges place)
      → Contains (cond b (first.to ∷ new_ends seen standings counting edges) (new_ends seen standings counting edges)) place
      → IsNewEnd seen standings counting (first ∷ edges) place
  new-end-by first edges place true new rest (zero, below, is) = end-first first edges place new is
  new-end-by first edges place true new rest (suc k, below, is) = end-later first edges place (rest (k, omega arith, is))
  new-end-by first edges place false new rest one = end-later first edges place (rest one)

  pub new-end-of : (edges : List Edge) (place : ℕ) → Contains (new_ends seen standings counting edges) place
      → IsNewEnd seen standings counting edges place
  new-end-of [] place (k, below, is) = absurd (omega arith)
  new-end-of (first ∷ edges) place one =
      new-end-by first edges place (is_new_end seen standings counting first) refl (new-end-of edges place) one

-- what edges lead to is a crate
pub ends-within : (seen : SearchView) (standings : List Standing) (counting : Kinds) (edges : List Edge) (n : ℕ) → LeadWithin n edges
    → All (λ place. place < n) (new_ends seen standings counting edges)
ends-within seen standings counting edges n within =
    All-from_recursion (λ place. place < n) (new_ends seen standings counting edges)
    (all-by-one (λ place. place < n) (new_ends seen standings counting edges) (λ place one.
    let found : IsNewEnd seen standings counting edges place = new-end-of seen standings counting edges place one in
    subst (λ q. q < n) found.leads (All-contains (λ (edge : Edge). edge.to < n) edges found.edge within found.one)))

-- ---- roots

pub record IsRootAt (first : ℕ) (standings : List Standing) (place : ℕ) : Type 0 where
  pub index : ℕ
  pub within : index < length standings
  pub is_root : is_root_standing (slice_index_or standings index no_standing) ≡ true
  pub at : first + index ≡ place

pub root-in : (place : ℕ) (standings : List Standing) (index : ℕ) → index < length standings
    → is_root_standing (slice_index_or standings index no_standing) ≡ true → Contains (roots_from place standings) (place + index)
root-in place [] index within root = absurd (omega arith)
root-in place (standing ∷ standings) zero within root =
    let same : place ≡ place + zero = omega arith in
    subst (Contains (roots_from place (standing ∷ standings))) same
    (contains-put (is_root_standing standing) place (roots_from (suc place) standings) root)
root-in place (standing ∷ standings) (suc index) within root =
    let same : suc place + index ≡ place + suc index = omega arith in
    subst (Contains (roots_from place (standing ∷ standings))) same
    (contains-if (is_root_standing standing) place (roots_from (suc place) standings) (suc place + index)
    (root-in (suc place) standings index (omega arith) root))

root-later : (place : ℕ) (standing : Standing) (standings : List Standing) (q : ℕ) → IsRootAt (suc place) standings q
    → IsRootAt place (standing ∷ standings) q
root-later place standing standings q root = record {
  index = suc root.index;
  within = (let w : root.index < length standings = root.within in omega arith);
  is_root = root.is_root;
  at = (let a : suc place + root.index ≡ q = root.at in omega arith);
}

root-by : (place : ℕ) (standing : Standing) (standings : List Standing) (q : ℕ) (b : Bool) → is_root_standing standing ≡ b
    → (Contains (roots_from (suc place) standings) q → IsRootAt (suc place) standings q)
    → Contains (cond b (place ∷ roots_from (suc place) standings) (roots_from (suc place) standings)) q
    → IsRootAt place (standing ∷ standings) q
root-by place standing standings q true root rest (zero, below, is) =
    record { index = 0; within = omega arith; is_root = root; at = (let same : place ≡ q = is in omega arith) }
root-by place standing standings q true root rest (suc k, below, is) =
    root-later place standing standings q (rest (k, omega arith, is))
root-by place standing standings q false root rest one = root-later place standing standings q (rest one)

pub root-of : (place : ℕ) (standings : List Standing) (q : ℕ) → Contains (roots_from place standings) q → IsRootAt place standings q
root-of place [] q (k, below, is) = absurd (omega arith)
root-of place (standing ∷ standings) q one =
    root-by place standing standings q (is_root_standing standing) refl (root-of (suc place) standings q) one

pub roots-within : (standings : List Standing) → All (λ place. place < length standings) (roots_from 0 standings)
roots-within standings =
    All-from_recursion (λ place. place < length standings) (roots_from 0 standings)
    (all-by-one (λ place. place < length standings) (roots_from 0 standings) (λ place one.
    let root : IsRootAt 0 standings place = root-of 0 standings place one in
    let within : root.index < length standings = root.within in
    let at : 0 + root.index ≡ place = root.at in
    omega arith))

-- ---- places that ascend

above-more : (low : ℕ) (places : List ℕ) → AllByRecursion (λ place. suc low ≤ place) places → AllByRecursion (λ place. low ≤ place) places
above-more low [] above = tt
above-more low (place ∷ places) above = (omega arith, above-more low places above.1)

above-if : (b : Bool) (low : ℕ) (places : List ℕ) → AllByRecursion (λ place. suc low ≤ place) places
    → AllByRecursion (λ place. low ≤ place) (cond b (low ∷ places) places)
above-if true low places above = (omega arith, above-more low places above)
above-if false low places above = above-more low places above

roots-above : (place : ℕ) (standings : List Standing) → AllByRecursion (λ q. place ≤ q) (roots_from place standings)
roots-above place [] = tt
roots-above place (standing ∷ standings) =
    above-if (is_root_standing standing) place (roots_from (suc place) standings) (roots-above (suc place) standings)

ascend-if : (b : Bool) (low : ℕ) (places : List ℕ) → AllByRecursion (λ place. suc low ≤ place) places → AreAscending places
    → AreAscending (cond b (low ∷ places) places)
ascend-if true low places above ascend = (above-more low places above, ascend)
ascend-if false low places above ascend = ascend

pub roots-ascend : (place : ℕ) (standings : List Standing) → AreAscending (roots_from place standings)
roots-ascend place [] = tt
roots-ascend place (standing ∷ standings) =
    ascend-if (is_root_standing standing) place (roots_from (suc place) standings) (roots-above (suc place) standings)
    (roots-ascend (suc place) standings)

ascend-by : (places : List ℕ)
    → ((i j d : ℕ) → i ≤ j → j < length places → slice_index_or places i d ≤ slice_index_or places j d) → AreAscending places
ascend-by [] up = tt
ascend-by (place ∷ places) up = (
  recursion_from_All (λ next. place ≤ next) places
      (All-from_get_or (λ next. place ≤ next) places 0 (λ i below. up 0 (suc i) 0 (omega arith) (omega arith))),
  ascend-by places (λ i j d le below. up (suc i) (suc j) d (omega arith) (omega arith)),
)

pub sorted-ascend : (places : List ℕ) → IsSorted nat_cmp places → AreAscending places
sorted-ascend places sorted = ascend-by places (IsNonDecreasingBy-from_sort (λ (x : ℕ). x) places sorted)
