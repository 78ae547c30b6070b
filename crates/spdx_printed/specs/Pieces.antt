-- The pieces of a printed expression, and how its nodes are gone over, from the last one to the first. Only the
-- contracts of private calls cite it. Stacks are seen from their last item.
use Rattle.std.specs.Prelude.{ℕ, Bool, true, false, ◌||◌, List, [], ◌∷◌, ◌++◌, codes, reverse}
use Rattle.spdx_terms.specs.declared.term.ExpressionReq.{ExpressionReq}
use Rattle.spdx_core.specs.declared.node.ExprNode.{ExprNode}
use Rattle.spdx_core.specs.declared.node.ExprNode.TheVariants.{Term as term_node, And as and_node, Or as or_node}
use Rattle.spdx_core.specs.Grammar.{ExpressionTree, leaf, both, either}
use Rattle.spdx_printed.specs.declared.pieces.Piece.{Piece}
use Rattle.spdx_printed.specs.declared.pieces.Piece.TheVariants.{Term, And, Or, Open, Close}
use Rattle.spdx_printed.specs.declared.pieces.Wanted.{Wanted}
use Rattle.spdx_printed.specs.declared.pieces.Wanted.TheVariants.{Expression, Conjunction, Part}
use Rattle.spdx_printed.specs.declared.pieces.Progress.{Progress}
use Rattle.spdx_printed.specs.Printed.{is_and, is_or, term_text}

abbrev pub piece_text : List ExpressionReq → Piece → List ℕ
piece_text terms (Term place) = term_text terms place
piece_text terms And = codes " AND "
piece_text terms Or = codes " OR "
piece_text terms Open = codes "("
piece_text terms Close = codes ")"

abbrev pub grouped_pieces : Bool → List Piece → List Piece
grouped_pieces true pieces = Open ∷ (pieces ++ Close ∷ [])
grouped_pieces false pieces = pieces

-- the pieces of a tree
abbrev pub tree_pieces : ExpressionTree → List Piece
tree_pieces (leaf place) = Term place ∷ []
tree_pieces (both left right) =
    grouped_pieces (is_or left) (tree_pieces left)
    ++ And ∷ grouped_pieces (is_or right || is_and right) (tree_pieces right)
tree_pieces (either left right) = tree_pieces left ++ Or ∷ grouped_pieces (is_or right) (tree_pieces right)

-- what stands in parentheses where this is wanted
abbrev pub groups_and : Wanted → Bool
groups_and Expression = false
groups_and Conjunction = false
groups_and Part = true

abbrev pub groups_or : Wanted → Bool
groups_or Expression = false
groups_or Conjunction = true
groups_or Part = true

-- what is wanted where the next node stands, the pieces in front of its tree, the nearest one first, and those behind
-- it
pub record ProgressView : Type 0 where
  pub wanted : Wanted
  pub waiting : List Piece
  pub pieces : List Piece

abbrev pub progress : Wanted → List Piece → List Piece → ProgressView
progress wanted waiting pieces = record { wanted = wanted; waiting = waiting; pieces = pieces }

abbrev pub progress_of : Progress → ProgressView
progress_of p = progress p.wanted (reverse p.waiting.items) (reverse p.pieces.items)

abbrev pub nothing_printed : ProgressView
nothing_printed = progress Expression [] []

-- behind a part: what waits follows, up to an operator, whose left side is next
abbrev pub after_part : List Piece → List Piece → ProgressView
after_part [] pieces = progress Expression [] pieces
after_part (And ∷ waiting) pieces = progress Conjunction waiting (And ∷ pieces)
after_part (Or ∷ waiting) pieces = progress Expression waiting (Or ∷ pieces)
after_part (Open ∷ waiting) pieces = after_part waiting (Open ∷ pieces)
after_part (Close ∷ waiting) pieces = after_part waiting (Close ∷ pieces)
after_part (Term place ∷ waiting) pieces = after_part waiting (Term place ∷ pieces)

-- an operator waits in front of its right side, and in front of both sides their parenthesis
abbrev pub after_operator : Bool → Piece → Wanted → ProgressView → ProgressView
after_operator true operator right p = progress right (operator ∷ Open ∷ p.waiting) (Close ∷ p.pieces)
after_operator false operator right p = progress right (operator ∷ p.waiting) p.pieces

abbrev pub progress_after : ProgressView → ExprNode → ProgressView
progress_after p (term_node place) = after_part p.waiting (Term place ∷ p.pieces)
progress_after p and_node = after_operator (groups_and p.wanted) And Part p
progress_after p or_node = after_operator (groups_or p.wanted) Or Conjunction p

abbrev pub gone_over : ProgressView → List ExprNode → ProgressView
gone_over p [] = p
gone_over p (node ∷ nodes) = gone_over (progress_after p node) nodes
