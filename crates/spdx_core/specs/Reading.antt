-- A plain reader of items: the expression that a text is.
use Rattle.std.specs.Prelude.{ℕ, ◌+◌, ◌==◌, Bool, true, false, List, [], ◌∷◌, ◌++◌, Option, Some, None, is_none, length}
use Rattle.std.specs.Prelude.{if◌then◌else◌}
use Rattle.std.specs.Option.{option_map, option_and_then}
use Rattle.deny_text.specs.declared.span.Span.{Span}
use Rattle.spdx_terms.specs.declared.mode.ParseMode.{ParseMode}
use Rattle.spdx_core.specs.declared.node.ExprNode.{ExprNode}
use Rattle.spdx_core.specs.declared.node.ExprNode.TheVariants.{Term as term_node, And as and_node, Or as or_node}
use Rattle.spdx_terms.specs.declared.term.ExpressionReq.{ExpressionReq}
use Rattle.spdx_terms.specs.declared.item.ItemKind.{ItemKind}
use Rattle.spdx_terms.specs.declared.item.ItemKind.TheVariants.{Term, Exception, And, Or, With, Open, Close, Plus, Word}
use Rattle.spdx_terms.specs.declared.item.ItemKind.TheVariants.{Other}
use Rattle.spdx_terms.specs.declared.item.Item.{Item}
use Rattle.spdx_terms.specs.catalog.Catalog.{CatalogLists}
use Rattle.spdx_terms.specs.Items.{items_of}
use Rattle.spdx_terms.specs.Faults.{first_fault}
use Rattle.spdx_core.specs.Grammar.{ExpressionTree, leaf, both, either, term}

-- a tree in postfix form
abbrev pub postfix : ExpressionTree → List ExprNode
postfix (leaf place) = term_node place ∷ []
postfix (both left right) = postfix left ++ postfix right ++ and_node ∷ []
postfix (either left right) = postfix left ++ postfix right ++ or_node ∷ []

-- an operator joins the last two trees
abbrev pub join_last : (ExpressionTree → ExpressionTree → ExpressionTree) → List ExpressionTree → List ExpressionTree
join_last join [] = []
join_last join (right ∷ []) = right ∷ []
join_last join (right ∷ left ∷ rest) = join left right ∷ rest

-- the trees that nodes leave, the last one first
abbrev pub trees_after : List ExpressionTree → List ExprNode → List ExpressionTree
trees_after trees [] = trees
trees_after trees (term_node place ∷ nodes) = trees_after (leaf place ∷ trees) nodes
trees_after trees (and_node ∷ nodes) = trees_after (join_last both trees) nodes
trees_after trees (or_node ∷ nodes) = trees_after (join_last either trees) nodes

abbrev pub last_tree : List ExpressionTree → ExpressionTree
last_tree [] = leaf 0
last_tree (tree ∷ rest) = tree

-- the tree that nodes in postfix form are
abbrev pub tree_of : List ExprNode → ExpressionTree
tree_of nodes = last_tree (trees_after [] nodes)

-- the places of a tree follow one another from a number on; behind the last one comes this number
abbrev pub numbered_from : ℕ → ExpressionTree → Option ℕ
numbered_from n (leaf place) = if place == n then Some (n + 1) else None
numbered_from n (both left right) = option_and_then (λ m. numbered_from m right) (numbered_from n left)
numbered_from n (either left right) = option_and_then (λ m. numbered_from m right) (numbered_from n left)

-- an expression: its text, its terms in text order, and how they are joined
pub record ExpressionView : Type 0 where
  pub text : List ℕ
  pub terms : List ExpressionReq
  pub tree : ExpressionTree

-- what is between two parentheses so far: what an `OR` is behind, and the conjunction behind it
pub record ParenthesisLevel : Type 0 where
  pub sum : Option ExpressionTree
  pub product : Option ExpressionTree

abbrev pub empty_level : ParenthesisLevel
empty_level = record { sum = None; product = None }

abbrev pub product_with : Option ExpressionTree → ExpressionTree → ExpressionTree
product_with None tree = tree
product_with (Some left) tree = both left tree

abbrev pub sum_with : Option ExpressionTree → ExpressionTree → ExpressionTree
sum_with None tree = tree
sum_with (Some left) tree = either left tree

-- what a level is as a whole
abbrev pub level_tree : ParenthesisLevel → Option ExpressionTree
level_tree level = option_map (sum_with level.sum) level.product

-- a part goes to the conjunction
abbrev pub with_part : ParenthesisLevel → Option ExpressionTree → ParenthesisLevel
with_part level None = level
with_part level (Some tree) = record { sum = level.sum; product = Some (product_with level.product tree) }

-- an `OR` ends the conjunction
abbrev pub or_behind : ParenthesisLevel → Option ExpressionTree → ParenthesisLevel
or_behind level None = level
or_behind level (Some tree) = record { sum = Some tree; product = None }

-- the last term gets an exception, and ends where that ends
abbrev pub term_with_exception : ExpressionReq → List ℕ → ℕ → ExpressionReq
term_with_exception last name end = term last.req.item (Some name) last.span.start end

abbrev pub with_exception : List ExpressionReq → List ℕ → ℕ → List ExpressionReq
with_exception [] name end = []
with_exception (last ∷ []) name end = term_with_exception last name end ∷ []
with_exception (first ∷ next ∷ rest) name end = first ∷ with_exception (next ∷ rest) name end

-- what was read so far: the levels of the open parentheses, the last one first, the one at hand, and the terms
pub record ReaderState : Type 0 where
  pub outer : List ParenthesisLevel
  pub level : ParenthesisLevel
  pub terms : List ExpressionReq

abbrev pub nothing_read : ReaderState
nothing_read = record { outer = []; level = empty_level; terms = [] }

-- a `)` makes a part of its level
abbrev pub state_after_close : List ParenthesisLevel → ParenthesisLevel → List ExpressionReq → ReaderState
state_after_close [] level terms = record { outer = []; level = level; terms = terms }
state_after_close (last ∷ outer) level terms =
    record { outer = outer; level = with_part last (level_tree level); terms = terms }

abbrev pub after_item : ReaderState → ItemKind → Span → ReaderState
after_item read (Term simple) span = record {
  outer = read.outer;
  level = with_part read.level (Some (leaf (length read.terms)));
  terms = read.terms ++ term simple.item None span.start span.end ∷ [];
}
after_item read (Exception name) span =
    record { outer = read.outer; level = read.level; terms = with_exception read.terms name span.end }
after_item read And span = read
after_item read Or span =
    record { outer = read.outer; level = or_behind read.level (level_tree read.level); terms = read.terms }
after_item read With span = read
after_item read Open span = record { outer = read.level ∷ read.outer; level = empty_level; terms = read.terms }
after_item read Close span = state_after_close read.outer read.level read.terms
after_item read Plus span = read
after_item read Word span = read
after_item read Other span = read

abbrev pub after_items : ReaderState → List Item → ReaderState
after_items read [] = read
after_items read (item ∷ items) = after_items (after_item read item.what item.span) items

abbrev pub expression_if : Bool → List ℕ → ReaderState → Option ExpressionView
expression_if false text read = None
expression_if true text read =
    option_map (λ tree. record { text = text; terms = read.terms; tree = tree }) (level_tree read.level)

-- the expression that a text is; none where it has a fault
abbrev pub expression_of_text : ParseMode → CatalogLists → List ℕ → Option ExpressionView
expression_of_text mode lists text =
    expression_if (is_none (first_fault mode lists text)) text (after_items nothing_read (items_of mode lists text))
