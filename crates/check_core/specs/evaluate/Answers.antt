-- The walk over the nodes of an expression, step by step. Only the contracts of private calls cite it. It has an answer
-- for each tree that waits for its operator, the last one first.
use Rattle.std.specs.Prelude.{ℕ, Bool, false, ◌&&◌, ◌||◌, List, [], ◌∷◌}
use Rattle.spdx_core.specs.declared.node.ExprNode.{ExprNode}
use Rattle.spdx_core.specs.declared.node.ExprNode.TheVariants.{Term, And, Or}
use Rattle.spdx_core.specs.certificates.Stack.{first_of, behind_first}

-- the answers of the last two trees, and those behind them
abbrev pub right_of : List Bool → Bool
right_of answers = first_of false answers

abbrev pub left_of : List Bool → Bool
left_of answers = first_of false (behind_first answers)

abbrev pub others_of : List Bool → List Bool
others_of answers = behind_first (behind_first answers)

abbrev pub answers_after : (ℕ → Bool) → List Bool → ExprNode → List Bool
answers_after has_hit answers (Term place) = has_hit place ∷ answers
answers_after has_hit answers And = (left_of answers && right_of answers) ∷ others_of answers
answers_after has_hit answers Or = (left_of answers || right_of answers) ∷ others_of answers

abbrev pub answers_over : (ℕ → Bool) → List Bool → List ExprNode → List Bool
answers_over has_hit answers [] = answers
answers_over has_hit answers (node ∷ nodes) = answers_over has_hit (answers_after has_hit answers node) nodes
