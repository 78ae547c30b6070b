-- The walk over the nodes finds the fewest places without a hit, and the marks of the tree.
use Rattle.std.proofs.Common.{◌≡◌, ◌∙◌, refl, sym, ap, ℕ, ◌+◌, ◌≤◌, Bool, true, false, cond, List, [], ◌∷◌, ◌++◌, append_assoc, append-nil, arith, ltb, eqb}
use Rattle.spdx_core.specs.declared.node.ExprNode.{ExprNode}
use Rattle.spdx_core.specs.declared.node.ExprNode.TheVariants.{Term as term_node, And as and_node, Or as or_node}
use Rattle.spdx_core.specs.Grammar.{ExpressionTree, leaf, both, either}
use Rattle.spdx_core.specs.Reading.{postfix}
use Rattle.spdx_core.specs.certificates.Marks.{fewest_misses}
use Rattle.spdx_core.specs.certificates.Machine.{MarkingView, marked_after, marks_after, no_marks, marks_of, total, left_of, right_of}
use Rattle.spdx_core.specs.certificates.Stack.{behind_first}
use Rattle.spdx_core.specs.declared.certificates.mark.NodeMark.{NodeMark}
use Rattle.spdx_core.specs.declared.certificates.mark.NodeMark.TheVariants.{And, Or}

-- the state with a tree's count and marks on it
with_tree : (ℕ → Bool) → ExpressionTree → MarkingView → MarkingView
with_tree has_hit tree m = record { counts = fewest_misses has_hit tree ∷ m.counts; marks = marks_of has_hit tree ++ m.marks }

postfix_parts : (left right : ExpressionTree) (node : ExprNode) (rest : List ExprNode) → ((postfix left ++ postfix right) ++ node ∷ []) ++ rest ≡ postfix left ++ (postfix right ++ node ∷ rest)
postfix_parts left right node rest = append_assoc (postfix left ++ postfix right) (node ∷ []) rest ∙ append_assoc (postfix left) (postfix right) (node ∷ rest)

state : List ℕ → List NodeMark → MarkingView
state counts marks = record { counts = counts; marks = marks }

marked_tree : (has_hit : ℕ → Bool) (tree : ExpressionTree) (m : MarkingView) (rest : List ExprNode) → marks_after has_hit m (postfix tree ++ rest) ≡ marks_after has_hit (with_tree has_hit tree m) rest
unfolding with_tree state
marked_tree has_hit (leaf place) m rest = refl
marked_tree has_hit (both left right) m rest =
    ap (marks_after has_hit m) (postfix_parts left right and_node rest)
    ∙ marked_tree has_hit left m (postfix right ++ and_node ∷ rest)
    ∙ marked_tree has_hit right (with_tree has_hit left m) (and_node ∷ rest)
    ∙ ap (λ marks. marks_after has_hit (state (fewest_misses has_hit (both left right) ∷ m.counts) (And (eqb (fewest_misses has_hit left) 0) ∷ marks)) rest)
    (sym (append_assoc (marks_of has_hit right) (marks_of has_hit left) m.marks))
marked_tree has_hit (either left right) m rest =
    ap (marks_after has_hit m) (postfix_parts left right or_node rest)
    ∙ marked_tree has_hit left m (postfix right ++ or_node ∷ rest)
    ∙ marked_tree has_hit right (with_tree has_hit left m) (or_node ∷ rest)
    ∙ ap (λ marks. marks_after has_hit (state (fewest_misses has_hit (either left right) ∷ m.counts) (Or (ltb (fewest_misses has_hit right) (fewest_misses has_hit left)) ∷ marks)) rest)
    (sym (append_assoc (marks_of has_hit right) (marks_of has_hit left) m.marks))

-- a whole tree
pub marked_whole : (has_hit : ℕ → Bool) (tree : ExpressionTree) → marks_after has_hit no_marks (postfix tree) ≡ record { counts = fewest_misses has_hit tree ∷ []; marks = marks_of has_hit tree }
unfolding with_tree state
marked_whole has_hit tree =
    ap (marks_after has_hit no_marks) (sym (append-nil (postfix tree)))
    ∙ marked_tree has_hit tree no_marks []
    ∙ ap (λ marks. state (fewest_misses has_hit tree ∷ []) marks) (append-nil (marks_of has_hit tree))

-- the counts of the last two trees are part of all
pub last_two : (counts : List ℕ) → left_of counts + right_of counts ≤ total counts
last_two [] = omega arith
last_two (right ∷ []) = omega arith
last_two (right ∷ left ∷ counts) = omega arith

joined_total : (counts : List ℕ) → left_of counts + right_of counts + total (behind_first (behind_first counts)) ≡ total counts
joined_total [] = refl
joined_total (right ∷ []) = omega arith
joined_total (right ∷ left ∷ counts) = omega arith

lesser : (b : Bool) (left right : ℕ) → cond b right left ≤ left + right
lesser true left right = omega arith
lesser false left right = omega arith

hit_count : (b : Bool) → cond b 0 1 ≤ 1
hit_count true = omega arith
hit_count false = omega arith

-- a node adds one at most
pub total_after : (has_hit : ℕ → Bool) (m : MarkingView) (node : ExprNode) → total (marked_after has_hit m node).counts ≤ total m.counts + 1
total_after has_hit m (term_node place) = omega (arith, hit_count (has_hit place))
total_after has_hit m and_node = omega (arith, joined_total m.counts)
total_after has_hit m or_node = omega (arith, joined_total m.counts, lesser (ltb (right_of m.counts) (left_of m.counts)) (left_of m.counts) (right_of m.counts))
