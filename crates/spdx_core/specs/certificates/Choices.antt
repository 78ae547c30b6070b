-- The ways to satisfy a licence expression, and what shows that it is or is not satisfied. A test says which places of
-- its terms have a hit.
use Rattle.std.specs.Prelude.{◌≡◌, ◌<◌, ◌≤◌, ℕ, nat_le, Bool, not, List, [], ◌∷◌, ◌++◌, map, Option, find, count_by}
use Rattle.std.specs.Prelude.{All, Any, Contains, if◌then◌else◌}
use Rattle.std.specs.List.{flat_map, list_any, list_all}
use Rattle.spdx_core.specs.Grammar.{ExpressionTree, leaf, both, either}

-- All ways to satisfy a tree, each as the places of its terms: those of either side of an OR, and each of the left side
-- of an AND with each of the right.
abbrev pub choices_of : ExpressionTree → List (List ℕ)
choices_of (leaf place) = (place ∷ []) ∷ []
choices_of (both left right) = flat_map (λ some. map (λ more. some ++ more) (choices_of right)) (choices_of left)
choices_of (either left right) = choices_of left ++ choices_of right

-- some choice has a hit at each of its places
abbrev pub is_accepted : (ℕ → Bool) → ExpressionTree → Bool
is_accepted has_hit tree = list_any (list_all has_hit) (choices_of tree)

-- the first choice that has a hit at each of its places
abbrev pub first_choice : (ℕ → Bool) → ExpressionTree → Option (List ℕ)
first_choice has_hit tree = find (list_all has_hit) (choices_of tree)

-- how many places of a choice have no hit
abbrev pub misses : (ℕ → Bool) → List ℕ → ℕ
misses has_hit choice = count_by (λ place. not (has_hit place)) choice

-- no choice of some has fewer places without a hit
abbrev pub is_least : (ℕ → Bool) → List (List ℕ) → List ℕ → Bool
is_least has_hit choices choice = list_all (λ other. nat_le (misses has_hit choice) (misses has_hit other)) choices

-- the first of the choices with the fewest places without a hit
abbrev pub least_choice : (ℕ → Bool) → ExpressionTree → Option (List ℕ)
least_choice has_hit tree = find (is_least has_hit (choices_of tree)) (choices_of tree)

-- the places that stand in the way of a tree that is not accepted
abbrev pub blocks_of : (ℕ → Bool) → ExpressionTree → List ℕ
blocks_of has_hit (leaf place) = place ∷ []
blocks_of has_hit (both left right) =
    if is_accepted has_hit left then blocks_of has_hit right else blocks_of has_hit left
blocks_of has_hit (either left right) = blocks_of has_hit left ++ blocks_of has_hit right

-- of some choices one is the first with the fewest places without a hit: before it all have more, behind it none has
-- fewer
pub record IsFirstLeast (has_hit : ℕ → Bool) (choices : List (List ℕ)) (choice : List ℕ) : Type 0 where
  pub before : List (List ℕ)
  pub behind : List (List ℕ)
  pub parts : choices ≡ before ++ choice ∷ behind
  pub more : All (λ other. misses has_hit choice < misses has_hit other) before
  pub none_fewer : All (λ other. misses has_hit choice ≤ misses has_hit other) behind

-- every choice holds one of some places
abbrev pub MeetEach : List ℕ → List (List ℕ) → Type 0
MeetEach places choices = All (λ choice. Any (Contains choice) places) choices

-- a choice holds a place, and no other one of some places
pub record HoldsAlone (places : List ℕ) (place : ℕ) (choice : List ℕ) : Type 0 where
  pub holds : Contains choice place
  pub alone : (other : ℕ) → Contains places other → Contains choice other → other ≡ place

-- each of some places is held by a choice that holds no other one of them
abbrev pub EachAlone : List ℕ → List (List ℕ) → Type 0
EachAlone places choices = All (λ place. Any (HoldsAlone places place) choices) places
