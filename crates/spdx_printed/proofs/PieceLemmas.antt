-- The pieces that the nodes of a tree lead to, and their text.
use Rattle.std.proofs.Common.{◌≡◌, ◌∙◌, refl, sym, ap, ℕ, Bool, true, false, ◌||◌, List, [], ◌∷◌, ◌++◌, append_assoc, append-nil, reverse, codes}
use Rattle.std.proofs.lemmas.List.{reverse-append}
use Rattle.std.proofs.lemmas.List.Concat.{flat_map-append}
use Rattle.std.specs.List.{flat_map}
use Rattle.spdx_terms.specs.declared.term.ExpressionReq.{ExpressionReq}
use Rattle.spdx_core.specs.declared.node.ExprNode.{ExprNode}
use Rattle.spdx_core.specs.declared.node.ExprNode.TheVariants.{And as and_node, Or as or_node}
use Rattle.spdx_core.specs.Grammar.{ExpressionTree, leaf, both, either}
use Rattle.spdx_core.specs.Reading.{postfix}
use Rattle.spdx_printed.specs.declared.pieces.Piece.{Piece}
use Rattle.spdx_printed.specs.declared.pieces.Piece.TheVariants.{And, Or, Open, Close}
use Rattle.spdx_printed.specs.declared.pieces.Wanted.{Wanted}
use Rattle.spdx_printed.specs.declared.pieces.Wanted.TheVariants.{Expression, Conjunction, Part}
use Rattle.spdx_printed.specs.Printed.{is_and, is_or, grouped_if, printed_of}
use Rattle.spdx_printed.specs.Pieces.{piece_text, grouped_pieces, tree_pieces, groups_and, groups_or, ProgressView, progress, nothing_printed, after_part, after_operator, gone_over}

-- ---- nodes

-- whether a tree stands in parentheses
abbrev groups : Wanted → ExpressionTree → Bool
groups wanted (leaf place) = false
groups wanted (both left right) = groups_and wanted
groups wanted (either left right) = groups_or wanted

in_expression : (tree : ExpressionTree) → groups Expression tree ≡ false
in_expression (leaf place) = refl
in_expression (both left right) = refl
in_expression (either left right) = refl

in_conjunction : (tree : ExpressionTree) → groups Conjunction tree ≡ is_or tree
in_conjunction (leaf place) = refl
in_conjunction (both left right) = refl
in_conjunction (either left right) = refl

in_part : (tree : ExpressionTree) → groups Part tree ≡ (is_or tree || is_and tree)
in_part (leaf place) = refl
in_part (both left right) = refl
in_part (either left right) = refl

-- nodes, gone over from the last one on, put these pieces in front of the others
abbrev Leads : Wanted → List ExprNode → List Piece → Type 0
Leads wanted nodes new = (waiting pieces : List Piece) (rest : List ExprNode)
    → gone_over (progress wanted waiting pieces) (nodes ++ rest) ≡ gone_over (after_part waiting (new ++ pieces)) rest

-- the nodes of two sides and their operator
sides_back : (left right rest : List ExprNode) (operator : ExprNode) → reverse (left ++ right ++ operator ∷ []) ++ rest ≡ operator ∷ (reverse right ++ (reverse left ++ rest))
sides_back left right rest operator =
    ap (λ (nodes : List ExprNode). nodes ++ rest) (reverse-append (left ++ right) (operator ∷ []) ∙ ap (λ (nodes : List ExprNode). operator ∷ nodes) (reverse-append left right))
    ∙ ap (λ (nodes : List ExprNode). operator ∷ nodes) (append_assoc (reverse right) (reverse left) rest)

-- behind both sides of an operator
sides : (grouped : Bool) (wanted left right : Wanted) (operator : Piece) → ((waiting pieces : List Piece) → after_part (operator ∷ waiting) pieces ≡ progress left waiting (operator ∷ pieces))
    → (left_nodes right_nodes : List ExprNode) (some more : List Piece) → Leads left left_nodes some → Leads right right_nodes more
    → (waiting pieces : List Piece) (rest : List ExprNode)
    → gone_over (after_operator grouped operator right (progress wanted waiting pieces)) (right_nodes ++ (left_nodes ++ rest))
    ≡ gone_over (after_part waiting (grouped_pieces grouped (some ++ operator ∷ more) ++ pieces)) rest
sides false wanted left right operator ends left_nodes right_nodes some more to_left to_right waiting pieces rest =
    to_right (operator ∷ waiting) pieces (left_nodes ++ rest)
    ∙ ap (λ p. gone_over p (left_nodes ++ rest)) (ends waiting (more ++ pieces))
    ∙ to_left waiting (operator ∷ (more ++ pieces)) rest
    ∙ ap (λ (all : List Piece). gone_over (after_part waiting all) rest) (sym (append_assoc some (operator ∷ more) pieces))
sides true wanted left right operator ends left_nodes right_nodes some more to_left to_right waiting pieces rest =
    to_right (operator ∷ Open ∷ waiting) (Close ∷ pieces) (left_nodes ++ rest)
    ∙ ap (λ p. gone_over p (left_nodes ++ rest)) (ends (Open ∷ waiting) (more ++ Close ∷ pieces))
    ∙ to_left (Open ∷ waiting) (operator ∷ (more ++ Close ∷ pieces)) rest
    ∙ ap (λ (all : List Piece). gone_over (after_part waiting (Open ∷ all)) rest)
    (sym (append_assoc (some ++ operator ∷ more) (Close ∷ []) pieces ∙ append_assoc some (operator ∷ more) (Close ∷ pieces)))

leads_as : (wanted : Wanted) (nodes : List ExprNode) (new : List Piece) (one other : Bool) → one ≡ other → Leads wanted nodes (grouped_pieces one new) → Leads wanted nodes (grouped_pieces other new)
leads_as wanted nodes new one other is leads waiting pieces rest =
    leads waiting pieces rest ∙ ap (λ t. gone_over (after_part waiting (grouped_pieces t new ++ pieces)) rest) is

leads_to : (tree : ExpressionTree) (wanted : Wanted) → Leads wanted (reverse (postfix tree)) (grouped_pieces (groups wanted tree) (tree_pieces tree))
leads_to (leaf place) wanted waiting pieces rest = refl
leads_to (both left right) wanted waiting pieces rest =
    ap (λ nodes. gone_over (progress wanted waiting pieces) nodes) (sides_back (postfix left) (postfix right) rest and_node)
    ∙ sides (groups_and wanted) wanted Conjunction Part And (λ waiting pieces. refl) (reverse (postfix left)) (reverse (postfix right))
    (grouped_pieces (is_or left) (tree_pieces left)) (grouped_pieces (is_or right || is_and right) (tree_pieces right))
    (leads_as Conjunction (reverse (postfix left)) (tree_pieces left) (groups Conjunction left) (is_or left) (in_conjunction left) (leads_to left Conjunction))
    (leads_as Part (reverse (postfix right)) (tree_pieces right) (groups Part right) (is_or right || is_and right) (in_part right) (leads_to right Part))
    waiting pieces rest
leads_to (either left right) wanted waiting pieces rest =
    ap (λ nodes. gone_over (progress wanted waiting pieces) nodes) (sides_back (postfix left) (postfix right) rest or_node)
    ∙ sides (groups_or wanted) wanted Expression Conjunction Or (λ waiting pieces. refl) (reverse (postfix left)) (reverse (postfix right))
    (tree_pieces left) (grouped_pieces (is_or right) (tree_pieces right))
    (leads_as Expression (reverse (postfix left)) (tree_pieces left) (groups Expression left) false (in_expression left) (leads_to left Expression))
    (leads_as Conjunction (reverse (postfix right)) (tree_pieces right) (groups Conjunction right) (is_or right) (in_conjunction right) (leads_to right Conjunction))
    waiting pieces rest

-- all nodes of a tree
pub whole_pieces : (tree : ExpressionTree) → (gone_over nothing_printed (reverse (postfix tree))).pieces ≡ tree_pieces tree
whole_pieces tree =
    ap (λ nodes. (gone_over nothing_printed nodes).pieces) (sym (append-nil (reverse (postfix tree))))
    ∙ ap (λ (p : ProgressView). p.pieces) (leads_to tree Expression [] [] [])
    ∙ append-nil (grouped_pieces (groups Expression tree) (tree_pieces tree))
    ∙ ap (λ t. grouped_pieces t (tree_pieces tree)) (in_expression tree)

-- ---- texts

module _ (terms : List ExpressionReq) where
  abbrev text_of : List Piece → List ℕ
  text_of pieces = flat_map (piece_text terms) pieces

  grouped_text : (grouped : Bool) (pieces : List Piece) (text : List ℕ) → text_of pieces ≡ text → text_of (grouped_pieces grouped pieces) ≡ grouped_if grouped text
  grouped_text true pieces text is =
      ap (λ (all : List ℕ). codes "(" ++ all) (flat_map-append (piece_text terms) pieces (Close ∷ []) ∙ ap (λ (all : List ℕ). all ++ codes ")") is)
  grouped_text false pieces text is = is

  joined_text : (operator : Piece) (some more : List Piece) (one other : List ℕ) → text_of some ≡ one → text_of more ≡ other → text_of (some ++ operator ∷ more) ≡ one ++ (piece_text terms operator ++ other)
  joined_text operator some more one other is_one is_other =
      flat_map-append (piece_text terms) some (operator ∷ more)
      ∙ ap (λ (all : List ℕ). all ++ (piece_text terms operator ++ text_of more)) is_one
      ∙ ap (λ (all : List ℕ). one ++ (piece_text terms operator ++ all)) is_other

  tree_text : (tree : ExpressionTree) → text_of (tree_pieces tree) ≡ printed_of terms tree
  tree_text (leaf place) = append-nil (printed_of terms (leaf place))
  tree_text (both left right) =
      joined_text And (grouped_pieces (is_or left) (tree_pieces left)) (grouped_pieces (is_or right || is_and right) (tree_pieces right))
      (grouped_if (is_or left) (printed_of terms left)) (grouped_if (is_or right || is_and right) (printed_of terms right))
      (grouped_text (is_or left) (tree_pieces left) (printed_of terms left) (tree_text left))
      (grouped_text (is_or right || is_and right) (tree_pieces right) (printed_of terms right) (tree_text right))
  tree_text (either left right) =
      joined_text Or (tree_pieces left) (grouped_pieces (is_or right) (tree_pieces right)) (printed_of terms left) (grouped_if (is_or right) (printed_of terms right))
      (tree_text left) (grouped_text (is_or right) (tree_pieces right) (printed_of terms right) (tree_text right))

-- the pieces that are found from the nodes are those of the printed expression
pub printed_by : (terms : List ExpressionReq) (tree : ExpressionTree) → flat_map (piece_text terms) (gone_over nothing_printed (reverse (postfix tree))).pieces ≡ printed_of terms tree
printed_by terms tree = ap (λ pieces. flat_map (piece_text terms) pieces) (whole_pieces tree) ∙ tree_text terms tree
