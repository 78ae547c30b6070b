-- What every expression keeps, and what reading one answers.
use Rattle.std.specs.Prelude.{◌≡◌, ℕ, ◌<◌, List, Some, None, length, map, Result, Ok, Err}
use Rattle.spdx_terms.specs.catalog.Catalog.{CatalogLists}
use Rattle.spdx_terms.specs.declared.mode.ParseMode.{ParseMode}
use Rattle.spdx_terms.specs.declared.error.ExprError.{ExprError}
use Rattle.spdx_terms.specs.declared.error.ExprError.TheVariants.{Parse, Memory}
use Rattle.spdx_terms.specs.declared.term.ExpressionReq.{ExpressionReq}
use Rattle.spdx_terms.specs.Faults.{first_fault}
use Rattle.spdx_terms.specs.Spans.{Rise}
use Rattle.spdx_core.specs.declared.node.ExprNode.{ExprNode}
use Rattle.spdx_core.specs.Grammar.{ExpressionTree, Spells}
use Rattle.spdx_core.specs.Reading.{ExpressionView, postfix, tree_of, numbered_from}

-- Of every expression, also of a copy: its places are those of its terms, in text order, and its terms follow one
-- another in the text, are not empty, and stand on character borders. There is at least one.
pub record IsExpression (text : List ℕ) (terms : List ExpressionReq) (tree : ExpressionTree) : Type 0 where
  pub places : numbered_from 0 tree ≡ Some (length terms)
  pub spans : Rise text 0 (map (λ term. term.span) terms) (length text)
  pub some : 0 < length terms

-- the nodes are the tree in postfix form
pub record AreNodesKept (text : List ℕ) (terms : List ExpressionReq) (nodes : List ExprNode) : Type 0 where
  pub nodes_of_tree : postfix (tree_of nodes) ≡ nodes
  pub is : IsExpression text terms (tree_of nodes)

-- a text is read, and spelled as the grammar has it
pub record IsExpressionRead (mode : ParseMode) (lists : CatalogLists) (text : List ℕ)
    (read : ExpressionView) : Type 0 where
  pub text_kept : read.text ≡ text
  pub spelled : Spells mode lists text read.tree read.terms
  pub fine : first_fault mode lists text ≡ None

-- a text is read, or reported by its first fault; want of memory is free
abbrev pub ExpressionAnswers : ParseMode → CatalogLists → List ℕ → Result ExpressionView ExprError → Type 0
ExpressionAnswers mode lists text (Ok read) = IsExpressionRead mode lists text read
ExpressionAnswers mode lists text (Err (Parse fault)) = first_fault mode lists text ≡ Some fault
ExpressionAnswers mode lists text (Err Memory) = Unit {0}
