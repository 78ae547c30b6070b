-- An expression is distinguished by its text, its terms and its nodes: nodes in postfix form give their tree back.
use Rattle.std.specs.Coded.{Coded, code_by, coded×, coded_ℕ, coded_list}
use Rattle.std.proofs.Common.{◌≡◌, ◌∙◌, refl, sym, ap, ℕ, List, [], ◌∷◌, ◌++◌, append_assoc, append-nil}
use Rattle.spdx_terms.specs.contracts.term.ExpressionReq as req
use Rattle.spdx_terms.specs.declared.term.ExpressionReq.{ExpressionReq}
use Rattle.spdx_core.specs.contracts.node.ExprNode as node
use Rattle.spdx_core.specs.declared.node.ExprNode.{ExprNode}
use Rattle.spdx_core.specs.declared.node.ExprNode.TheVariants.{And as and_node, Or as or_node}
use Rattle.spdx_core.specs.Grammar.{ExpressionTree, leaf, both, either}
use Rattle.spdx_core.specs.Reading.{ExpressionView, postfix, trees_after, tree_of, last_tree}

-- a tree is read back from its nodes
trees_of_postfix : (tree : ExpressionTree) (before : List ExpressionTree) (rest : List ExprNode)
    → trees_after before (postfix tree ++ rest) ≡ trees_after (tree ∷ before) rest
trees_of_postfix (leaf place) before rest = refl
trees_of_postfix (both left right) before rest =
    ap (trees_after before) (append_assoc (postfix left ++ postfix right) (and_node ∷ []) rest
    ∙ append_assoc (postfix left) (postfix right) (and_node ∷ rest))
    ∙ trees_of_postfix left before (postfix right ++ and_node ∷ rest)
    ∙ trees_of_postfix right (left ∷ before) (and_node ∷ rest)
trees_of_postfix (either left right) before rest =
    ap (trees_after before) (append_assoc (postfix left ++ postfix right) (or_node ∷ []) rest
    ∙ append_assoc (postfix left) (postfix right) (or_node ∷ rest))
    ∙ trees_of_postfix left before (postfix right ++ or_node ∷ rest)
    ∙ trees_of_postfix right (left ∷ before) (or_node ∷ rest)

pub tree_of_postfix : (tree : ExpressionTree) → tree_of (postfix tree) ≡ tree
tree_of_postfix tree =
    ap (λ nodes. tree_of nodes) (sym (append-nil (postfix tree))) ∙ ap last_tree (trees_of_postfix tree [] [])

abbrev pub tree_code : Coded ExpressionTree
tree_code = code_by (List ExprNode) (coded_list node.the_row.coded) postfix tree_of tree_of_postfix

abbrev pub expression_code : Coded ExpressionView
expression_code =
    code_by (List ℕ × (List ExpressionReq × ExpressionTree))
    (coded× (coded_list coded_ℕ) (coded× (coded_list req.the_row.coded) tree_code))
    (λ e. (e.text, (e.terms, e.tree))) (λ p. record { text = p.0; terms = p.1.0; tree = p.1.1 }) (λ _. refl)
