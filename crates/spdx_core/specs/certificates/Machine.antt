-- The walks over the nodes of an expression, step by step. Only the contracts of private calls cite it. Stacks are seen
-- from their last item.
use Rattle.std.specs.Prelude.{ℕ, ◌+◌, nat_lt, nat_eq, Bool, true, false, not, ◌&&◌, ◌||◌, List, [], ◌∷◌, ◌++◌, reverse}
use Rattle.std.specs.Prelude.{if◌then◌else◌}
use Rattle.spdx_core.specs.declared.node.ExprNode.{ExprNode}
use Rattle.spdx_core.specs.declared.node.ExprNode.TheVariants.{Term as term_node, And as and_node, Or as or_node}
use Rattle.spdx_core.specs.Grammar.{ExpressionTree, leaf, both, either}
use Rattle.spdx_core.specs.declared.certificates.mark.NodeMark.{NodeMark}
use Rattle.spdx_core.specs.declared.certificates.mark.NodeMark.TheVariants.{Term, And, Or}
use Rattle.spdx_core.specs.declared.certificates.mark.Marking.{Marking}
use Rattle.spdx_core.specs.declared.certificates.walk.Walk.{Walk}
use Rattle.spdx_core.specs.declared.certificates.walk.Walk.TheVariants.{Choice, Blocks}
use Rattle.spdx_core.specs.declared.certificates.walk.WalkState.{WalkState}
use Rattle.spdx_core.specs.certificates.Marks.{fewest_misses}
use Rattle.spdx_core.specs.certificates.Stack.{first_of, behind_first}

-- the fewest places without a hit of each tree that waits for its operator, and the marks of the nodes so far
pub record MarkingView : Type 0 where
  pub counts : List ℕ
  pub marks : List NodeMark

abbrev pub marked_of : Marking → MarkingView
marked_of marking = record { counts = reverse marking.counts.items; marks = reverse marking.marks.items }

abbrev pub no_marks : MarkingView
no_marks = record { counts = []; marks = [] }

-- the counts of the last two trees
abbrev pub right_of : List ℕ → ℕ
right_of counts = first_of 0 counts

abbrev pub left_of : List ℕ → ℕ
left_of counts = first_of 0 (behind_first counts)

abbrev pub marked_after : (ℕ → Bool) → MarkingView → ExprNode → MarkingView
marked_after has_hit m (term_node place) =
    record { counts = (if has_hit place then 0 else 1) ∷ m.counts; marks = Term place ∷ m.marks }
marked_after has_hit m and_node = record {
  counts = (left_of m.counts + right_of m.counts) ∷ behind_first (behind_first m.counts);
  marks = And (nat_eq (left_of m.counts) 0) ∷ m.marks;
}
marked_after has_hit m or_node = record {
  counts = (if nat_lt (right_of m.counts) (left_of m.counts) then right_of m.counts else left_of m.counts)
      ∷ behind_first (behind_first m.counts);
  marks = Or (nat_lt (right_of m.counts) (left_of m.counts)) ∷ m.marks;
}

abbrev pub marks_after : (ℕ → Bool) → MarkingView → List ExprNode → MarkingView
marks_after has_hit m [] = m
marks_after has_hit m (node ∷ nodes) = marks_after has_hit (marked_after has_hit m node) nodes

-- all counts together, no more than the terms so far
abbrev pub total : List ℕ → ℕ
total [] = 0
total (count ∷ counts) = count + total counts

-- the marks of a tree, the last node first
abbrev pub marks_of : (ℕ → Bool) → ExpressionTree → List NodeMark
marks_of has_hit (leaf place) = Term place ∷ []
marks_of has_hit (both left right) =
    And (nat_eq (fewest_misses has_hit left) 0) ∷ marks_of has_hit right ++ marks_of has_hit left
marks_of has_hit (either left right) =
    Or (nat_lt (fewest_misses has_hit right) (fewest_misses has_hit left)) ∷ marks_of has_hit right
    ++ marks_of has_hit left

-- which operators' sides are both taken
abbrev pub of_and : Walk → Bool
of_and Choice = true
of_and Blocks = false

abbrev pub of_or : Walk → Bool
of_or Choice = false
of_or Blocks = true

-- for each tree that is still to come whether it is taken, and the places that were taken
pub record Way : Type 0 where
  pub flags : List Bool
  pub places : List ℕ

abbrev pub way_of : WalkState → Way
way_of walked = record { flags = reverse walked.flags.items; places = reverse walked.places.items }

-- an operator goes on to both of its sides or to the marked one, the right one first
abbrev pub sides_flags : Bool → Bool → Bool → List Bool → List Bool
sides_flags is_taken takes_both right flags =
    (is_taken && (takes_both || right)) ∷ (is_taken && (takes_both || not right)) ∷ flags

abbrev pub way_after : Walk → Way → NodeMark → Way
way_after walk w (Term place) =
    record { flags = behind_first w.flags; places = if first_of false w.flags then place ∷ w.places else w.places }
way_after walk w (And right) = record {
  flags = sides_flags (first_of false w.flags) (of_and walk) right (behind_first w.flags);
  places = w.places;
}
way_after walk w (Or right) =
    record { flags = sides_flags (first_of false w.flags) (of_or walk) right (behind_first w.flags); places = w.places }

abbrev pub walked_over : Walk → Way → List NodeMark → Way
walked_over walk w [] = w
walked_over walk w (mark ∷ marks) = walked_over walk (way_after walk w mark) marks

-- a walk over a whole tree begins
abbrev pub walk_start : Way
walk_start = record { flags = true ∷ []; places = [] }
