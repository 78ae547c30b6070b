-- The walk over the marks of a tree gathers the places that it takes.
use Rattle.std.proofs.Common.{◌≡◌, ◌∙◌, refl, sym, ap, ℕ, Bool, true, false, cond, ◌&&◌, ◌||◌, not, List, [], ◌∷◌, ◌++◌, append_assoc, append-nil, eqb, ltb}
use Rattle.spdx_core.specs.Grammar.{ExpressionTree, leaf, both, either}
use Rattle.spdx_core.specs.declared.certificates.mark.NodeMark.{NodeMark}
use Rattle.spdx_core.specs.declared.certificates.walk.Walk.{Walk}
use Rattle.spdx_core.specs.certificates.Marks.{fewest_misses, sides, taken_places}
use Rattle.spdx_core.specs.certificates.Machine.{Way, walked_over, marks_of, of_and, of_or, sides_flags, walk_start}

way : List Bool → List ℕ → Way
way flags places = record { flags = flags; places = places }

-- places that are taken
abbrev if_taken : Bool → List ℕ → List ℕ
if_taken flag places = cond flag places []

-- the places of the sides that an operator goes on to are those that it takes
sides_taken : (flag of_both right : Bool) (l r places : List ℕ) → if_taken (flag && (of_both || not right)) l ++ (if_taken (flag && (of_both || right)) r ++ places) ≡ if_taken flag (sides of_both right l r) ++ places
sides_taken false of_both right l r places = refl
sides_taken true true right l r places = sym (append_assoc l r places)
sides_taken true false true l r places = refl
sides_taken true false false l r places = refl

leaf_taken : (flag : Bool) (place : ℕ) (places : List ℕ) → cond flag (place ∷ places) places ≡ if_taken flag (place ∷ []) ++ places
leaf_taken true place places = refl
leaf_taken false place places = refl

-- a walk over some marks gathers some places, where it takes them
abbrev Gathers : Walk → List NodeMark → List ℕ → Type 0
Gathers walk marks gathered = (flag : Bool) (flags : List Bool) (places : List ℕ) (rest : List NodeMark)
    → walked_over walk (way (flag ∷ flags) places) (marks ++ rest) ≡ walked_over walk (way flags (if_taken flag gathered ++ places)) rest

-- both sides of an operator, the right one first
walked_sides : (walk : Walk) (l r : List NodeMark) (left right : List ℕ) (of_both marked flag : Bool) (flags : List Bool) (places : List ℕ) (rest : List NodeMark) → Gathers walk l left → Gathers walk r right
    → walked_over walk (way (sides_flags flag of_both marked flags) places) ((r ++ l) ++ rest) ≡ walked_over walk (way flags (if_taken flag (sides of_both marked left right) ++ places)) rest
walked_sides walk l r left right of_both marked flag flags places rest of_left of_right =
    ap (walked_over walk (way (sides_flags flag of_both marked flags) places)) (append_assoc r l rest)
    ∙ of_right (flag && (of_both || marked)) ((flag && (of_both || not marked)) ∷ flags) places (l ++ rest)
    ∙ of_left (flag && (of_both || not marked)) flags (if_taken (flag && (of_both || marked)) right ++ places) rest
    ∙ ap (λ all. walked_over walk (way flags all) rest) (sides_taken flag of_both marked left right places)

walked_tree : (has_hit : ℕ → Bool) (walk : Walk) (tree : ExpressionTree) → Gathers walk (marks_of has_hit tree) (taken_places has_hit (of_and walk) (of_or walk) tree)
unfolding way
walked_tree has_hit walk (leaf place) flag flags places rest = ap (λ all. walked_over walk (way flags all) rest) (leaf_taken flag place places)
walked_tree has_hit walk (both left right) flag flags places rest =
    walked_sides walk (marks_of has_hit left) (marks_of has_hit right) (taken_places has_hit (of_and walk) (of_or walk) left) (taken_places has_hit (of_and walk) (of_or walk) right)
    (of_and walk) (eqb (fewest_misses has_hit left) 0) flag flags places rest (walked_tree has_hit walk left) (walked_tree has_hit walk right)
walked_tree has_hit walk (either left right) flag flags places rest =
    walked_sides walk (marks_of has_hit left) (marks_of has_hit right) (taken_places has_hit (of_and walk) (of_or walk) left) (taken_places has_hit (of_and walk) (of_or walk) right)
    (of_or walk) (ltb (fewest_misses has_hit right) (fewest_misses has_hit left)) flag flags places rest (walked_tree has_hit walk left) (walked_tree has_hit walk right)

-- a walk over a whole tree
pub walked_whole : (has_hit : ℕ → Bool) (walk : Walk) (tree : ExpressionTree) → (walked_over walk walk_start (marks_of has_hit tree)).places ≡ taken_places has_hit (of_and walk) (of_or walk) tree
unfolding way
walked_whole has_hit walk tree =
    ap (λ marks. (walked_over walk walk_start marks).places) (sym (append-nil (marks_of has_hit tree)))
    ∙ ap (λ w. w.places) (walked_tree has_hit walk tree true [] [] [])
    ∙ append-nil (taken_places has_hit (of_and walk) (of_or walk) tree)
