-- The reader, step by step, does what the plain reader does.
use Rattle.std.proofs.Common.{◌≡◌, ◌∙◌, refl, sym, ap, ℕ, Bool, true, false, cond, List, [], ◌∷◌, ◌++◌, map, append_assoc, append-nil, Option, Some, None, is_some, length}
use Rattle.std.proofs.lemmas.Bool.{false≢true}
use Rattle.deny_text.specs.declared.span.Span.{Span}
use Rattle.spdx_terms.specs.declared.mode.ParseMode.{ParseMode}
use Rattle.spdx_terms.specs.declared.error.ParseReason.TheVariants.{Unexpected, UnopenedParens}
use Rattle.spdx_terms.specs.declared.item.WantedItem.{WantedItem}
use Rattle.spdx_terms.specs.declared.item.WantedItem.TheVariants.{Term as wants_term, Exception as wants_exception, AfterTerm, AfterPart}
use Rattle.spdx_terms.specs.declared.item.ItemKind.{ItemKind}
use Rattle.spdx_terms.specs.declared.item.ItemKind.TheVariants.{Term, Exception, And, Or, With, Open, Close, Plus, Word, Other}
use Rattle.spdx_terms.specs.declared.item.Item.{Item}
use Rattle.spdx_terms.specs.declared.term.ExpressionReq.{ExpressionReq}
use Rattle.spdx_terms.specs.Items.{wanted_after}
use Rattle.spdx_terms.specs.Faults.{fault_from, item_fault, fault_unless, fault_over, takes_operator, takes_with, takes_exception, has_open, opened_after}
use Rattle.spdx_terms.proofs.FaultLemmas.{no, first_of-left, first_of-right}
use Rattle.spdx_core.specs.declared.node.ExprNode.{ExprNode}
use Rattle.spdx_core.specs.declared.node.ExprNode.TheVariants.{And as and_node, Or as or_node}
use Rattle.spdx_core.specs.declared.reader.OpenOperators.{OpenOperators}
use Rattle.spdx_core.specs.Grammar.{ExpressionTree, leaf, term}
use Rattle.spdx_core.specs.Reading.{postfix, state_after_close, product_with, sum_with, ParenthesisLevel, ReaderState, after_item, after_items}
use Rattle.spdx_core.specs.Machine.{Machine, nodes_with, machine_after, run}

abbrev nodes_if : Option ExpressionTree → List ExprNode
nodes_if None = []
nodes_if (Some tree) = postfix tree

abbrev level_nodes : ParenthesisLevel → List ExprNode
level_nodes level = nodes_if level.sum ++ nodes_if level.product

abbrev outer_nodes : List ParenthesisLevel → List ExprNode
outer_nodes [] = []
outer_nodes (level ∷ outer) = outer_nodes outer ++ level_nodes level

abbrev waits_of : ParenthesisLevel → OpenOperators
waits_of level = record { or = is_some level.sum; and = is_some level.product }

abbrev machine : List OpenOperators → OpenOperators → List ExprNode → List ExpressionReq → Machine
machine outer level nodes terms = record { outer = outer; level = level; nodes = nodes; terms = terms }

-- the machine that has read so far
abbrev pub shown : ReaderState → Machine
shown read = machine (map waits_of read.outer) (waits_of read.level) (outer_nodes read.outer ++ level_nodes read.level) read.terms

-- a part behind a conjunction
part_nodes : (before : List ExprNode) (sum product : Option ExpressionTree) (tree : ExpressionTree)
    → nodes_with (is_some product) and_node ((before ++ (nodes_if sum ++ nodes_if product)) ++ postfix tree) ≡ before ++ (nodes_if sum ++ postfix (product_with product tree))
part_nodes before sum None tree =
    ap (λ all. (before ++ all) ++ postfix tree) (append-nil (nodes_if sum)) ∙ append_assoc before (nodes_if sum) (postfix tree)
part_nodes before sum (Some left) tree =
    append_assoc (before ++ (nodes_if sum ++ postfix left)) (postfix tree) (and_node ∷ [])
    ∙ append_assoc before (nodes_if sum ++ postfix left) (postfix tree ++ and_node ∷ [])
    ∙ ap (λ all. before ++ all) (append_assoc (nodes_if sum) (postfix left) (postfix tree ++ and_node ∷ []) ∙ ap (λ all. nodes_if sum ++ all) (sym (append_assoc (postfix left) (postfix tree) (and_node ∷ []))))

-- an `OR` ends a conjunction
pub sum_nodes : (before : List ExprNode) (sum : Option ExpressionTree) (tree : ExpressionTree) → nodes_with (is_some sum) or_node (before ++ (nodes_if sum ++ postfix tree)) ≡ before ++ postfix (sum_with sum tree)
sum_nodes before None tree = refl
sum_nodes before (Some left) tree = append_assoc before (postfix left ++ postfix tree) (or_node ∷ [])

abbrev needs_part : ItemKind → Bool
needs_part (Term named) = false
needs_part (Exception name) = false
needs_part And = false
needs_part Or = true
needs_part With = false
needs_part Open = false
needs_part Close = true
needs_part Plus = false
needs_part Word = false
needs_part Other = false

or_step : (outer : List ParenthesisLevel) (sum product : Option ExpressionTree) (terms : List ExpressionReq) (span : Span) → is_some product ≡ true
    → machine_after (shown (record { outer = outer; level = record { sum = sum; product = product }; terms = terms })) Or span ≡ shown (after_item (record { outer = outer; level = record { sum = sum; product = product }; terms = terms }) Or span)
or_step outer sum None terms span h = absurd (false≢true h)
or_step outer sum (Some tree) terms span h =
    ap (λ nodes. machine (map waits_of outer) (record { or = true; and = false }) nodes terms)
    (sum_nodes (outer_nodes outer) sum tree ∙ ap (λ all. outer_nodes outer ++ all) (sym (append-nil (postfix (sum_with sum tree)))))

close_step : (outer : List ParenthesisLevel) (sum product : Option ExpressionTree) (terms : List ExpressionReq) (span : Span) → is_some product ≡ true
    → machine_after (shown (record { outer = outer; level = record { sum = sum; product = product }; terms = terms })) Close span ≡ shown (after_item (record { outer = outer; level = record { sum = sum; product = product }; terms = terms }) Close span)
close_step outer sum None terms span h = absurd (false≢true h)
close_step [] sum (Some tree) terms span h = refl
close_step (last ∷ outer) sum (Some tree) terms span h =
    ap (λ nodes. machine (map waits_of outer) (record { or = is_some last.sum; and = true }) nodes terms)
    (ap (nodes_with (is_some last.product) and_node) (sum_nodes (outer_nodes outer ++ level_nodes last) sum tree)
    ∙ part_nodes (outer_nodes outer) last.sum last.product (sum_with sum tree))

-- a step of the reader is one of the plain reader
step_same : (read : ReaderState) (what : ItemKind) (span : Span) → (needs_part what ≡ true → is_some read.level.product ≡ true) → machine_after (shown read) what span ≡ shown (after_item read what span)
step_same read (Term named) span h =
    ap (λ nodes. machine (map waits_of read.outer) (record { or = is_some read.level.sum; and = true }) nodes (read.terms ++ term named.item None span.start span.end ∷ [])) (part_nodes (outer_nodes read.outer) read.level.sum read.level.product (leaf (length read.terms)))
step_same read (Exception name) span h = refl
step_same read And span h = refl
step_same read Or span h = or_step read.outer read.level.sum read.level.product read.terms span (h refl)
step_same read With span h = refl
step_same read Open span h =
    ap (λ nodes. machine (waits_of read.level ∷ map waits_of read.outer) (record { or = false; and = false }) nodes read.terms) (sym (append-nil (outer_nodes read.outer ++ level_nodes read.level)))
step_same read Close span h = close_step read.outer read.level.sum read.level.product read.terms span (h refl)
step_same read Plus span h = refl
step_same read Word span h = refl
step_same read Other span h = refl

-- where no term is wanted, a part was read
abbrev pub HasPart : WantedItem → ReaderState → Type 0
HasPart wants_term read = Unit {0}
HasPart wants_exception read = is_some read.level.product ≡ true
HasPart AfterTerm read = is_some read.level.product ≡ true
HasPart AfterPart read = is_some read.level.product ≡ true

operator_part : (wanted : WantedItem) (read : ReaderState) (span : Span) → fault_unless (takes_operator wanted) Unexpected span ≡ None → HasPart wanted read → is_some read.level.product ≡ true
operator_part wants_term read span h has = no h
operator_part wants_exception read span h has = no h
operator_part AfterTerm read span h has = has
operator_part AfterPart read span h has = has

close_part : (wanted : WantedItem) (opened : List Span) (read : ReaderState) (span : Span) → cond (has_open opened) (fault_unless (takes_operator wanted) Unexpected span) (fault_over UnopenedParens span) ≡ None → HasPart wanted read → is_some read.level.product ≡ true
close_part wanted [] read span h has = no h
close_part wanted (o ∷ opened) read span h has = operator_part wanted read span h has

-- an item without a fault finds the part that it needs
finds_part : (mode : ParseMode) (wanted : WantedItem) (opened : List Span) (read : ReaderState) (what : ItemKind) (span : Span) → item_fault mode wanted (has_open opened) what span ≡ None → HasPart wanted read → needs_part what ≡ true → is_some read.level.product ≡ true
finds_part mode wanted opened read (Term named) span h has needs = absurd (false≢true needs)
finds_part mode wanted opened read (Exception name) span h has needs = absurd (false≢true needs)
finds_part mode wanted opened read And span h has needs = absurd (false≢true needs)
finds_part mode wanted opened read Or span h has needs = operator_part wanted read span h has
finds_part mode wanted opened read With span h has needs = absurd (false≢true needs)
finds_part mode wanted opened read Open span h has needs = absurd (false≢true needs)
finds_part mode wanted opened read Close span h has needs = close_part wanted opened read span h has
finds_part mode wanted opened read Plus span h has needs = absurd (false≢true needs)
finds_part mode wanted opened read Word span h has needs = absurd (false≢true needs)
finds_part mode wanted opened read Other span h has needs = absurd (false≢true needs)

joined_some : (product : Option ExpressionTree) (tree : ExpressionTree) → is_some (Some (product_with product tree)) ≡ true
joined_some product tree = refl

closed_part : (outer : List ParenthesisLevel) (sum product : Option ExpressionTree) (terms : List ExpressionReq) → is_some product ≡ true → is_some (state_after_close outer (record { sum = sum; product = product }) terms).level.product ≡ true
closed_part outer sum None terms h = absurd (false≢true h)
closed_part [] sum (Some tree) terms h = refl
closed_part (last ∷ outer) sum (Some tree) terms h = refl

with_part_there : (mode : ParseMode) (wanted : WantedItem) (read : ReaderState) (span : Span) → fault_unless (takes_with wanted) Unexpected span ≡ None → HasPart wanted read → is_some read.level.product ≡ true
with_part_there mode wants_term read span h has = no h
with_part_there mode wants_exception read span h has = no h
with_part_there mode AfterTerm read span h has = has
with_part_there mode AfterPart read span h has = no h

exception_there : (wanted : WantedItem) (read : ReaderState) (span : Span) → fault_unless (takes_exception wanted) Unexpected span ≡ None → HasPart wanted read → is_some read.level.product ≡ true
exception_there wants_term read span h has = no h
exception_there wants_exception read span h has = has
exception_there AfterTerm read span h has = no h
exception_there AfterPart read span h has = no h

-- and leaves one where no term is wanted
keeps_part : (mode : ParseMode) (wanted : WantedItem) (opened : List Span) (read : ReaderState) (what : ItemKind) (span : Span) → item_fault mode wanted (has_open opened) what span ≡ None → HasPart wanted read → HasPart (wanted_after wanted what) (after_item read what span)
keeps_part mode wanted opened read (Term named) span h has = refl
keeps_part mode wanted opened read (Exception name) span h has = exception_there wanted read span h has
keeps_part mode wanted opened read And span h has = tt
keeps_part mode wanted opened read Or span h has = tt
keeps_part mode wanted opened read With span h has = with_part_there mode wanted read span h has
keeps_part mode wanted opened read Open span h has = tt
keeps_part mode wanted opened read Close span h has = closed_part read.outer read.level.sum read.level.product read.terms (close_part wanted opened read span h has)
keeps_part mode wanted opened read Plus span h has = no h
keeps_part mode wanted opened read Word span h has = no h
keeps_part mode wanted opened read Other span h has = no h

-- items without a fault are read as the plain reader reads them
pub run_same : (mode : ParseMode) (len : ℕ) (wanted : WantedItem) (opened : List Span) (read : ReaderState) (items : List Item) → fault_from mode len wanted opened items ≡ None → HasPart wanted read → run (shown read) items ≡ shown (after_items read items)
run_same mode len wanted opened read [] h has = refl
run_same mode len wanted opened read (it ∷ items) h has =
    let first = item_fault mode wanted (has_open opened) it.what it.span in
    let rest = fault_from mode len (wanted_after wanted it.what) (opened_after opened it.what it.span) items in
    let fine : item_fault mode wanted (has_open opened) it.what it.span ≡ None = first_of-left first rest h in
    ap (λ m. run m items) (step_same read it.what it.span (finds_part mode wanted opened read it.what it.span fine has))
    ∙ run_same mode len (wanted_after wanted it.what) (opened_after opened it.what it.span) (after_item read it.what it.span) items (first_of-right first rest h) (keeps_part mode wanted opened read it.what it.span fine has)
