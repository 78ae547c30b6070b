-- Each block is held by a choice that holds no other one, where places are numbered in text order.
use Rattle.std.proofs.Common.{◌≡◌, refl, sym, subst, ℕ, ◌+◌, ◌<◌, ◌≤◌, Bool, true, false, cond, ⊎_elim, List, [], ◌∷◌, ◌++◌, map, Option, Some, None, arith, eqb}
use Rattle.std.specs.Prelude.{All, Any, Contains}
use Rattle.std.specs.Option.{option_and_then}
use Rattle.std.proofs.lemmas.Bool.{eqb-true}
use Rattle.std.proofs.lemmas.List.Elements.{All-nil, All-cons, All-append, All-weaker, All-contains, Contains-append_left, Contains-append_right, Contains-append_cases, Contains-push, Contains-push_cases}
use Rattle.spdx_core.specs.Grammar.{ExpressionTree, leaf, both, either}
use Rattle.spdx_core.specs.Reading.{numbered_from}
use Rattle.spdx_core.specs.certificates.Choices.{choices_of, is_accepted, blocks_of, EachAlone, HoldsAlone}
use Rattle.spdx_core.specs.certificates.Marks.{taken_places}
use Rattle.spdx_core.proofs.certificates.LeastLemmas.{with_each, All-with_each, least_taken}
use Rattle.spdx_core.proofs.certificates.BlockLemmas.{any_of, one_side}

-- a place from one number up to another
abbrev Within : ℕ → ℕ → ℕ → Type 0
Within low high place = (low ≤ place) × (place < high)

-- the sides of a tree whose places are numbered
record Sides (n m : ℕ) (left right : ExpressionTree) : Type 0 where
  mid : ℕ
  before : numbered_from n left ≡ Some mid
  behind : numbered_from mid right ≡ Some m

sides_at : (n m : ℕ) (left right : ExpressionTree) (found : Option ℕ) → numbered_from n left ≡ found → option_and_then (λ k. numbered_from k right) found ≡ Some m → Sides n m left right
sides_at n m left right (Some mid) is h = record { mid = mid; before = is; behind = h }
sides_at n m left right None is h = absurd (cc h)

numbered_leaf : (n m place : ℕ) (b : Bool) → eqb place n ≡ b → cond b (Some (n + 1)) None ≡ Some m → (place ≡ n) × (m ≡ n + 1)
numbered_leaf n m place true is h = (eqb-true place n is, cc h)
numbered_leaf n m place false is h = absurd (cc h)

-- the numbers rise
rises : (n m : ℕ) (tree : ExpressionTree) → numbered_from n tree ≡ Some m → n < m
rises n m (leaf place) h = let at = numbered_leaf n m place (eqb place n) refl h in omega (arith, at.1)
rises n m (both left right) h =
    let s = sides_at n m left right (numbered_from n left) refl h in
    let l : n < s.mid = rises n s.mid left s.before in
    let r : s.mid < m = rises s.mid m right s.behind in
    omega (arith, l, r)
rises n m (either left right) h =
    let s = sides_at n m left right (numbered_from n left) refl h in
    let l : n < s.mid = rises n s.mid left s.before in
    let r : s.mid < m = rises s.mid m right s.behind in
    omega (arith, l, r)

wider : (n m low high : ℕ) → low ≤ n → m ≤ high → (places : List ℕ) → All (Within n m) places → All (Within low high) places
wider n m low high lo hi places = All-weaker (Within n m) (Within low high) (λ x w. (omega (arith, w.0), omega (arith, w.1))) places

-- the places of each choice are those of the tree
choices_within : (n m : ℕ) (tree : ExpressionTree) → numbered_from n tree ≡ Some m → All (All (Within n m)) (choices_of tree)
choices_within n m (leaf place) h =
    let at = numbered_leaf n m place (eqb place n) refl h in
    All-cons (All (Within n m)) (place ∷ []) []
    (All-cons (Within n m) place [] (omega (arith, at.0), omega (arith, at.0, at.1)) (All-nil (Within n m))) (All-nil (All (Within n m)))
choices_within n m (both left right) h =
    let s = sides_at n m left right (numbered_from n left) refl h in
    let l : n < s.mid = rises n s.mid left s.before in
    let r : s.mid < m = rises s.mid m right s.behind in
    All-with_each (All (Within n s.mid)) (All (Within s.mid m)) (All (Within n m))
    (λ a b p q. All-append (Within n m) a b (wider n s.mid n m (omega arith) (omega (arith, r)) a p) (wider s.mid m n m (omega (arith, l)) (omega arith) b q))
    (choices_of left) (choices_of right) (choices_within n s.mid left s.before) (choices_within s.mid m right s.behind)
choices_within n m (either left right) h =
    let s = sides_at n m left right (numbered_from n left) refl h in
    let l : n < s.mid = rises n s.mid left s.before in
    let r : s.mid < m = rises s.mid m right s.behind in
    All-append (All (Within n m)) (choices_of left) (choices_of right)
    (All-weaker (All (Within n s.mid)) (All (Within n m)) (λ a p. wider n s.mid n m (omega arith) (omega (arith, r)) a p) (choices_of left) (choices_within n s.mid left s.before))
    (All-weaker (All (Within s.mid m)) (All (Within n m)) (λ b q. wider s.mid m n m (omega (arith, l)) (omega arith) b q) (choices_of right) (choices_within s.mid m right s.behind))

-- and so are its blocks
blocks_within : (has_hit : ℕ → Bool) (n m : ℕ) (tree : ExpressionTree) → numbered_from n tree ≡ Some m → All (Within n m) (blocks_of has_hit tree)
blocks_within has_hit n m (leaf place) h =
    let at = numbered_leaf n m place (eqb place n) refl h in
    All-cons (Within n m) place [] (omega (arith, at.0), omega (arith, at.0, at.1)) (All-nil (Within n m))
blocks_within has_hit n m (both left right) h =
    let s = sides_at n m left right (numbered_from n left) refl h in
    let l : n < s.mid = rises n s.mid left s.before in
    let r : s.mid < m = rises s.mid m right s.behind in
    one_side (All (Within n m)) (blocks_of has_hit left) (blocks_of has_hit right) (is_accepted has_hit left)
    (λ is. wider s.mid m n m (omega (arith, l)) (omega arith) (blocks_of has_hit right) (blocks_within has_hit s.mid m right s.behind))
    (λ is. wider n s.mid n m (omega arith) (omega (arith, r)) (blocks_of has_hit left) (blocks_within has_hit n s.mid left s.before))
blocks_within has_hit n m (either left right) h =
    let s = sides_at n m left right (numbered_from n left) refl h in
    let l : n < s.mid = rises n s.mid left s.before in
    let r : s.mid < m = rises s.mid m right s.behind in
    All-append (Within n m) (blocks_of has_hit left) (blocks_of has_hit right)
    (wider n s.mid n m (omega arith) (omega (arith, r)) (blocks_of has_hit left) (blocks_within has_hit n s.mid left s.before))
    (wider s.mid m n m (omega (arith, l)) (omega arith) (blocks_of has_hit right) (blocks_within has_hit s.mid m right s.behind))

-- a place on neither side of a number
apart : (n mid m place : ℕ) → Within n mid place → Within mid m place → ⊥
apart n mid m place l r = let below : place < mid = l.1 in let above : mid ≤ place = r.0 in absurd (omega arith)

contains_map : (f : List ℕ → List ℕ) (xs : List (List ℕ)) (x : List ℕ) → Contains xs x → Contains (map f xs) (f x)
contains_map f [] x at = absurd (let lt : at.0 < 0 = at.1 in omega arith)
contains_map f (y ∷ xs) x at =
    ⊎_elim
    (λ one. ⊎_elim (λ none. absurd (let lt : none.0 < 0 = none.1 in omega arith)) (λ same. Contains-append_left (f y ∷ []) (map f xs) (f x) (let P : List ℕ → Type 0 = λ z. Contains (f y ∷ []) (f z) in subst P same (Contains-push [] (f y)))) (Contains-push_cases [] y x one))
    (λ rest. Contains-append_right (f y ∷ []) (map f xs) (f x) (contains_map f xs x rest))
    (Contains-append_cases (y ∷ []) xs x at)

contains_with_each : (some others : List (List ℕ)) (a b : List ℕ) → Contains some a → Contains others b → Contains (with_each some others) (a ++ b)
contains_with_each [] others a b at that = absurd (let lt : at.0 < 0 = at.1 in omega arith)
contains_with_each (y ∷ some) others a b at that =
    ⊎_elim
    (λ one. ⊎_elim (λ none. absurd (let lt : none.0 < 0 = none.1 in omega arith)) (λ same. Contains-append_left (map (λ x. y ++ x) others) (with_each some others) (a ++ b) (let P : List ℕ → Type 0 = λ z. Contains (map (λ x. y ++ x) others) (z ++ b) in subst P same (contains_map (λ x. y ++ x) others b that))) (Contains-push_cases [] y a one))
    (λ rest. Contains-append_right (map (λ x. y ++ x) others) (with_each some others) (a ++ b) (contains_with_each some others a b rest that))
    (Contains-append_cases (y ∷ []) some a at)

-- a tree has a choice
some_choice : (tree : ExpressionTree) → (choice : List ℕ) × Contains (choices_of tree) choice
some_choice tree =
    let has : ℕ → Bool = λ place. true in
    let least = least_taken has tree in
    let chosen = taken_places has true false tree in
    let P : List (List ℕ) → Type 0 = λ all. Contains all chosen in
    (chosen, subst P (sym least.parts) (Contains-append_right least.before (chosen ∷ least.behind) chosen (Contains-append_left (chosen ∷ []) least.behind chosen (Contains-push [] chosen))))

-- a choice of a tree stays within it
choice_within : (n m : ℕ) (tree : ExpressionTree) → numbered_from n tree ≡ Some m → (choice : List ℕ) (place : ℕ) → Contains (choices_of tree) choice → Contains choice place → Within n m place
choice_within n m tree h choice place at holds =
    All-contains (Within n m) choice place (All-contains (All (Within n m)) (choices_of tree) choice (choices_within n m tree h) at) holds

block_within : (has_hit : ℕ → Bool) (n m : ℕ) (tree : ExpressionTree) → numbered_from n tree ≡ Some m → (place : ℕ) → Contains (blocks_of has_hit tree) place → Within n m place
block_within has_hit n m tree h place at = All-contains (Within n m) (blocks_of has_hit tree) place (blocks_within has_hit n m tree h) at

-- each block of the left side of an OR
alone_left : (n mid m : ℕ) (left : ExpressionTree) → numbered_from n left ≡ Some mid → (l r : List ℕ) (others : List (List ℕ)) → All (Within mid m) r
    → EachAlone l (choices_of left) → All (λ place. Any (HoldsAlone (l ++ r) place) (choices_of left ++ others)) l
alone_left n mid m left h l r others high alone =
    All-weaker (λ place. Any (HoldsAlone l place) (choices_of left)) (λ place. Any (HoldsAlone (l ++ r) place) (choices_of left ++ others))
    (λ place a.
    let at : Contains (choices_of left) a.1 = (a.0, a.2, a.3) in
    any_of (HoldsAlone (l ++ r) place) (choices_of left ++ others) a.1 (Contains-append_left (choices_of left) others a.1 at)
    (record {
      holds = a.4.holds;
      alone = λ other blocks held.
          ⊎_elim (λ here. a.4.alone other here held)
          (λ there. absurd (apart n mid m other (choice_within n mid left h a.1 other at held) (All-contains (Within mid m) r other high there)))
          (Contains-append_cases l r other blocks);
    }))
    l alone

-- each block of the right side of an OR
alone_right : (n mid m : ℕ) (right : ExpressionTree) → numbered_from mid right ≡ Some m → (l r : List ℕ) (others : List (List ℕ)) → All (Within n mid) l
    → EachAlone r (choices_of right) → All (λ place. Any (HoldsAlone (l ++ r) place) (others ++ choices_of right)) r
alone_right n mid m right h l r others low alone =
    All-weaker (λ place. Any (HoldsAlone r place) (choices_of right)) (λ place. Any (HoldsAlone (l ++ r) place) (others ++ choices_of right))
    (λ place a.
    let at : Contains (choices_of right) a.1 = (a.0, a.2, a.3) in
    any_of (HoldsAlone (l ++ r) place) (others ++ choices_of right) a.1 (Contains-append_right others (choices_of right) a.1 at)
    (record {
      holds = a.4.holds;
      alone = λ other blocks held.
          ⊎_elim (λ there. absurd (apart n mid m other (All-contains (Within n mid) l other low there) (choice_within mid m right h a.1 other at held)))
          (λ here. a.4.alone other here held)
          (Contains-append_cases l r other blocks);
    }))
    r alone

-- each block of an AND that stands on its left side
alone_before : (n mid m : ℕ) (left right : ExpressionTree) → numbered_from n left ≡ Some mid → numbered_from mid right ≡ Some m → (l : List ℕ) → All (Within n mid) l
    → EachAlone l (choices_of left) → EachAlone l (choices_of (both left right))
alone_before n mid m left right h k l low alone =
    let some = some_choice right in
    All-weaker (λ place. Any (HoldsAlone l place) (choices_of left)) (λ place. Any (HoldsAlone l place) (choices_of (both left right)))
    (λ place a.
    let at : Contains (choices_of left) a.1 = (a.0, a.2, a.3) in
    any_of (HoldsAlone l place) (choices_of (both left right)) (a.1 ++ some.0) (contains_with_each (choices_of left) (choices_of right) a.1 some.0 at some.1)
    (record {
      holds = Contains-append_left a.1 some.0 place a.4.holds;
      alone = λ other blocks held.
          ⊎_elim (λ here. a.4.alone other blocks here)
          (λ there. absurd (apart n mid m other (All-contains (Within n mid) l other low blocks) (choice_within mid m right k some.0 other some.1 there)))
          (Contains-append_cases a.1 some.0 other held);
    }))
    l alone

-- and of one that stands on its right side
alone_behind : (n mid m : ℕ) (left right : ExpressionTree) → numbered_from n left ≡ Some mid → numbered_from mid right ≡ Some m → (r : List ℕ) → All (Within mid m) r
    → EachAlone r (choices_of right) → EachAlone r (choices_of (both left right))
alone_behind n mid m left right h k r high alone =
    let some = some_choice left in
    All-weaker (λ place. Any (HoldsAlone r place) (choices_of right)) (λ place. Any (HoldsAlone r place) (choices_of (both left right)))
    (λ place a.
    let at : Contains (choices_of right) a.1 = (a.0, a.2, a.3) in
    any_of (HoldsAlone r place) (choices_of (both left right)) (some.0 ++ a.1) (contains_with_each (choices_of left) (choices_of right) some.0 a.1 some.1 at)
    (record {
      holds = Contains-append_right some.0 a.1 place a.4.holds;
      alone = λ other blocks held.
          ⊎_elim (λ there. absurd (apart n mid m other (choice_within n mid left h some.0 other some.1 there) (All-contains (Within mid m) r other high blocks)))
          (λ here. a.4.alone other blocks here)
          (Contains-append_cases some.0 a.1 other held);
    }))
    r alone

-- the only place of a leaf
alone_leaf : (place : ℕ) → HoldsAlone (place ∷ []) place (place ∷ [])
alone_leaf place = record {
  holds = Contains-push [] place;
  alone = λ other blocks held. ⊎_elim (λ none. absurd (let lt : none.0 < 0 = none.1 in omega arith)) (λ same. sym same) (Contains-push_cases [] place other blocks);
}

each_alone_from : (has_hit : ℕ → Bool) (n m : ℕ) (tree : ExpressionTree) → numbered_from n tree ≡ Some m → EachAlone (blocks_of has_hit tree) (choices_of tree)
each_alone_from has_hit n m (leaf place) h =
    let P : ℕ → Type 0 = λ p. Any (HoldsAlone (place ∷ []) p) ((place ∷ []) ∷ []) in
    All-cons P place [] (any_of (HoldsAlone (place ∷ []) place) ((place ∷ []) ∷ []) (place ∷ []) (Contains-push [] (place ∷ [])) (alone_leaf place)) (All-nil P)
each_alone_from has_hit n m (both left right) h =
    let s = sides_at n m left right (numbered_from n left) refl h in
    one_side (λ places. EachAlone places (choices_of (both left right))) (blocks_of has_hit left) (blocks_of has_hit right) (is_accepted has_hit left)
    (λ is. alone_behind n s.mid m left right s.before s.behind (blocks_of has_hit right) (blocks_within has_hit s.mid m right s.behind) (each_alone_from has_hit s.mid m right s.behind))
    (λ is. alone_before n s.mid m left right s.before s.behind (blocks_of has_hit left) (blocks_within has_hit n s.mid left s.before) (each_alone_from has_hit n s.mid left s.before))
each_alone_from has_hit n m (either left right) h =
    let s = sides_at n m left right (numbered_from n left) refl h in
    let l = blocks_of has_hit left in
    let r = blocks_of has_hit right in
    All-append (λ place. Any (HoldsAlone (l ++ r) place) (choices_of left ++ choices_of right)) l r
    (alone_left n s.mid m left s.before l r (choices_of right) (blocks_within has_hit s.mid m right s.behind) (each_alone_from has_hit n s.mid left s.before))
    (alone_right n s.mid m right s.behind l r (choices_of left) (blocks_within has_hit n s.mid left s.before) (each_alone_from has_hit s.mid m right s.behind))

-- each block is held by a choice that holds no other one
pub each_alone : (has_hit : ℕ → Bool) (m : ℕ) (tree : ExpressionTree) → numbered_from 0 tree ≡ Some m → EachAlone (blocks_of has_hit tree) (choices_of tree)
each_alone has_hit m tree h = each_alone_from has_hit 0 m tree h
