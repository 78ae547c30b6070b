-- The walks over the nodes of an expression, step by step. Only the contracts of private calls cite it.
use Rattle.std.specs.Prelude.{ℕ, ◌+◌, nat_lt, nat_eq, Bool, true, false, List, [], ◌∷◌, ◌++◌, if◌then◌else◌}
use Rattle.spdx_core.specs.Grammar.{ExpressionTree, leaf, both, either}

-- the fewest places without a hit that a choice of a tree has
abbrev pub fewest_misses : (ℕ → Bool) → ExpressionTree → ℕ
fewest_misses has_hit (leaf place) = if has_hit place then 0 else 1
fewest_misses has_hit (both left right) = fewest_misses has_hit left + fewest_misses has_hit right
fewest_misses has_hit (either left right) =
    if nat_lt (fewest_misses has_hit right) (fewest_misses has_hit left) then fewest_misses has_hit right
    else fewest_misses has_hit left

-- of an operator both sides are taken, or the marked one
abbrev pub sides : Bool → Bool → List ℕ → List ℕ → List ℕ
sides true right_marked left right = left ++ right
sides false true left right = right
sides false false left right = left

-- The places that a walk takes: both sides of the operators of one kind, and the marked side of the others. An AND is
-- marked by its first side that is not accepted, an OR by its first side with the fewest places without a hit.
abbrev pub taken_places : (ℕ → Bool) → Bool → Bool → ExpressionTree → List ℕ
taken_places has_hit of_and of_or (leaf place) = place ∷ []
taken_places has_hit of_and of_or (both left right) =
    sides of_and (nat_eq (fewest_misses has_hit left) 0) (taken_places has_hit of_and of_or left)
    (taken_places has_hit of_and of_or right)
taken_places has_hit of_and of_or (either left right) =
    sides of_or (nat_lt (fewest_misses has_hit right) (fewest_misses has_hit left))
    (taken_places has_hit of_and of_or left) (taken_places has_hit of_and of_or right)
