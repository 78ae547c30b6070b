-- The expression that items without a fault are.
use Rattle.std.proofs.Common.{◌≡◌, ◌∙◌, refl, sym, ap, subst, ℕ, ◌<◌, List, [], ◌∷◌, append-nil, Some, None, length, arith}
use Rattle.std.proofs.lemmas.List.{length-append}
use Rattle.std.specs.Str.{IsUtf8}
use Rattle.spdx_terms.specs.catalog.Catalog.{CatalogLists, IsCatalog}
use Rattle.spdx_terms.specs.declared.mode.ParseMode.{ParseMode}
use Rattle.spdx_terms.specs.declared.item.Item.{Item}
use Rattle.spdx_terms.specs.declared.item.WantedItem.TheVariants.{Term as wants_term}
use Rattle.spdx_terms.specs.declared.term.ExpressionReq.{ExpressionReq}
use Rattle.spdx_terms.specs.Items.{items_of}
use Rattle.spdx_terms.specs.Faults.{fault_from, fault_of, first_fault}
use Rattle.spdx_terms.proofs.FaultLemmas.{no}
use Rattle.spdx_core.specs.declared.node.ExprNode.{ExprNode}
use Rattle.spdx_core.specs.declared.node.ExprNode.TheVariants.{Or as or_node}
use Rattle.spdx_core.specs.Grammar.{ExpressionTree, Rule, ReadsAs, Spells, AllowedForms, simple, simple_with, grouped, one_part, and, one_conjunction, or}
use Rattle.spdx_core.specs.Reading.{postfix, tree_of, nothing_read, after_items}
use Rattle.spdx_core.specs.ExpressionCode.{tree_of_postfix}
use Rattle.spdx_core.specs.Machine.{Machine, no_machine, run, nodes_with}
use Rattle.spdx_core.specs.Expressions.{IsExpression, AreNodesKept, IsExpressionRead}
use Rattle.spdx_core.proofs.HasTree.{has_tree}
use Rattle.spdx_core.proofs.ReadingLemmas.{ReadWhole, complete}
use Rattle.spdx_core.proofs.MachineLemmas.{shown, sum_nodes, run_same}
use Rattle.spdx_core.proofs.SpellingLemmas.{in_order, terms_rise}

some_terms : {allowed : AllowedForms} {rule : Rule} {n : ℕ} {items : List Item} {tree : ExpressionTree} {terms : List ExpressionReq} → ReadsAs allowed rule n items tree terms → 0 < length terms
some_terms (simple n named start end ok) = omega arith
some_terms (simple_with n named name start mid from to last end ok) = omega arith
some_terms (grouped n from to last end inner tree terms reads) = some_terms reads
some_terms (one_part n items tree terms reads) = some_terms reads
some_terms (and n from to before behind left right some more l r) = let first : 0 < length some = some_terms l in omega (arith, length-append some more)
some_terms (one_conjunction n items tree terms reads) = some_terms reads
some_terms (or n from to before behind left right some more l r) = let first : 0 < length some = some_terms l in omega (arith, length-append some more)

-- a text without a fault has none among its items
fine_from : (mode : ParseMode) (len : ℕ) (items : List Item) → fault_of mode len items ≡ None → fault_from mode len wants_term [] items ≡ None
fine_from mode len [] none = no none
fine_from mode len (it ∷ items) none = none

-- what the reader made of a text
pub record Made (mode : ParseMode) (lists : CatalogLists) (text : List ℕ) (nodes : List ExprNode) (terms : List ExpressionReq) : Type 0 where
  pub tree : ExpressionTree
  pub spells : Spells mode lists text tree terms
  pub postfix_is : nodes ≡ postfix tree
  pub fine : first_fault mode lists text ≡ None

made_by : (mode : ParseMode) (lists : CatalogLists) (text : List ℕ) (m : Machine) (tree : ExpressionTree) (terms : List ExpressionReq) → first_fault mode lists text ≡ None → m ≡ run no_machine (items_of mode lists text)
    → Spells mode lists text tree terms → Made mode lists text (nodes_with m.level.or or_node m.nodes) m.terms
made_by mode lists text m tree terms none ran spells =
    let items = items_of mode lists text in
    let whole : ReadWhole [] [] items [] tree terms = complete spells [] None None [] [] refl in
    let read : after_items nothing_read items ≡ record { outer = []; level = record { sum = whole.sum; product = Some whole.last }; terms = terms } =
    ap (after_items nothing_read) (sym (append-nil items)) ∙ whole.read in
    let machine : m ≡ shown (record { outer = []; level = record { sum = whole.sum; product = Some whole.last }; terms = terms }) =
    ran ∙ run_same mode (length text) wants_term [] nothing_read items (fine_from mode (length text) items none) tt ∙ ap shown read in
    let same_terms : m.terms ≡ terms = ap (λ k. k.terms) machine in
    record {
      tree = tree;
      spells = subst (λ all. Spells mode lists text tree all) (sym same_terms) spells;
      postfix_is = ap (λ (k : Machine). nodes_with k.level.or or_node k.nodes) machine ∙ sum_nodes [] whole.sum whole.last ∙ ap postfix whole.whole;
      fine = none;
    }

made : (mode : ParseMode) (lists : CatalogLists) (text : List ℕ) (m : Machine) → first_fault mode lists text ≡ None → m ≡ run no_machine (items_of mode lists text)
    → Made mode lists text (nodes_with m.level.or or_node m.nodes) m.terms
made mode lists text m none ran =
    let tree = has_tree mode lists text none in
    made_by mode lists text m tree.0 tree.1 none ran tree.2

-- what was made is kept, and is what the text spells
pub kept : (mode : ParseMode) (lists : CatalogLists) (text : List ℕ) (nodes : List ExprNode) (terms : List ExpressionReq) → IsCatalog lists → IsUtf8 text → Made mode lists text nodes terms → AreNodesKept text terms nodes
kept mode lists text nodes terms laws utf8 m =
    let same : tree_of nodes ≡ m.tree = ap (λ all. tree_of all) m.postfix_is ∙ tree_of_postfix m.tree in
    record {
      nodes_of_tree = ap postfix same ∙ sym m.postfix_is;
      is = subst (λ tree. IsExpression text terms tree) (sym same) (record { places = in_order mode lists text m.tree terms m.spells; spans = terms_rise mode lists text m.tree terms laws utf8 m.spells; some = some_terms m.spells });
    }

pub read_is : (mode : ParseMode) (lists : CatalogLists) (text own : List ℕ) (nodes : List ExprNode) (terms : List ExpressionReq) → own ≡ text → Made mode lists text nodes terms
    → IsExpressionRead mode lists text (record { text = own; terms = terms; tree = tree_of nodes })
read_is mode lists text own nodes terms same m =
    let tree : tree_of nodes ≡ m.tree = ap (λ all. tree_of all) m.postfix_is ∙ tree_of_postfix m.tree in
    record { text_kept = same; spelled = subst (λ t. Spells mode lists text t terms) (sym tree) m.spells; fine = m.fine }

-- what the reader leaves once it is finished
pub finished : (mode : ParseMode) (lists : CatalogLists) (text : List ℕ) (m : Machine) (nodes : List ExprNode) (terms : List ExpressionReq) → first_fault mode lists text ≡ None → m ≡ run no_machine (items_of mode lists text)
    → nodes ≡ nodes_with m.level.or or_node m.nodes → terms ≡ m.terms → Made mode lists text nodes terms
finished mode lists text m nodes terms fine ran is_nodes is_terms =
    let done : Made mode lists text (nodes_with m.level.or or_node m.nodes) m.terms = made mode lists text m fine ran in
    subst (λ all. Made mode lists text all terms) (sym is_nodes) (subst (λ all. Made mode lists text (nodes_with m.level.or or_node m.nodes) all) (sym is_terms) done)
