-- What follows from a text's being spelled.
use Rattle.std.proofs.Common.{◌≡◌, ◌∙◌, refl, sym, ap, subst, ℕ, ◌+◌, ◌<◌, ◌≤◌, true, false, IsTrue, List, [], ◌∷◌, ◌++◌, map, Option, Some, None, is_none, length, arith}
use Rattle.std.specs.Option.{option_map}
use Rattle.std.specs.Str.{IsUtf8}
use Rattle.deny_text.specs.declared.span.Span.{Span}
use Rattle.spdx_terms.specs.catalog.Catalog.{CatalogLists, IsCatalog}
use Rattle.spdx_terms.specs.declared.mode.ParseMode.{ParseMode}
use Rattle.spdx_terms.specs.declared.error.ParseError.{ParseError}
use Rattle.spdx_terms.specs.declared.term.ExpressionReq.{ExpressionReq}
use Rattle.spdx_terms.specs.declared.item.Item.{Item}
use Rattle.spdx_terms.specs.declared.item.ItemKind.TheVariants.{And, Or, Close}
use Rattle.spdx_terms.specs.Items.{items_of}
use Rattle.spdx_terms.specs.Faults.{first_fault}
use Rattle.spdx_terms.specs.Spans.{Rise}
use Rattle.spdx_terms.specs.Laws.{with_slash, has_no_slash}
use Rattle.spdx_terms.proofs.ImpreciseLemmas.{some_same}
use Rattle.spdx_terms.proofs.ItemSpans.{items_rise, slash_same}
use Rattle.spdx_core.specs.Grammar.{ExpressionTree, Rule, expression, ReadsAs, Spells, AllowedForms, allowed_in, simple, simple_with, grouped, one_part, and, one_conjunction, or}
use Rattle.spdx_core.specs.Reading.{ExpressionView, ReaderState, nothing_read, after_items, expression_if, expression_of_text, numbered_from}
use Rattle.spdx_core.proofs.NoFault.{no_fault}
use Rattle.spdx_core.proofs.HasTree.{has_tree}
use Rattle.spdx_core.proofs.ReadingLemmas.{ReadAll, read_all, numbered}

-- the plain reader finds what is spelled
pub is_read : (mode : ParseMode) (lists : CatalogLists) (text : List ℕ) (tree : ExpressionTree) (terms : List ExpressionReq) → Spells mode lists text tree terms
    → expression_of_text mode lists text ≡ Some (record { text = text; terms = terms; tree = tree })
is_read mode lists text tree terms spells =
    let read : ReaderState = after_items nothing_read (items_of mode lists text) in
    let all : ReadAll (items_of mode lists text) tree terms = read_all spells in
    let made : ExpressionTree → ExpressionView = λ tree. record { text = text; terms = read.terms; tree = tree } in
    ap (λ fault. expression_if (is_none fault) text read) (no_fault mode lists text tree terms spells)
    ∙ ap (option_map made) all.tree_read
    ∙ ap (λ (found : List ExpressionReq). Some (let e : ExpressionView = record { text = text; terms = found; tree = tree } in e)) all.terms_read

-- what it finds is spelled
pub is_spelled : (mode : ParseMode) (lists : CatalogLists) (text : List ℕ) (found : ExpressionView) → expression_of_text mode lists text ≡ Some found → (found.text ≡ text) × Spells mode lists text found.tree found.terms
is_spelled mode lists text found h =
    let read : ReaderState = after_items nothing_read (items_of mode lists text) in
    elim (first_fault mode lists text) as (λ (fault : Option ParseError). first_fault mode lists text ≡ fault → expression_if (is_none fault) text read ≡ Some found → (found.text ≡ text) × Spells mode lists text found.tree found.terms) [
      | Some fault ↦ λ is e. cc
      | None ↦ λ is e.
          let tree = has_tree mode lists text is in
          let made : ExpressionView = record { text = text; terms = tree.1; tree = tree.0 } in
          let same : made ≡ found = some_same made found (sym (is_read mode lists text tree.0 tree.1 tree.2) ∙ h) in
          subst (λ (e : ExpressionView). (e.text ≡ text) × Spells mode lists text e.tree e.terms) same (refl, tree.2)
    ]
    refl h

pub strict : (mode : ParseMode) (lists : CatalogLists) (text : List ℕ) (tree : ExpressionTree) (terms : List ExpressionReq) → IsTrue (has_no_slash text) → Spells (with_slash true mode) lists text tree terms
    → Spells (with_slash false mode) lists text tree terms
strict mode lists text tree terms none spells = subst (λ items. ReadsAs (allowed_in mode) expression 0 items tree terms) (slash_same mode lists text none) spells

pub in_order : (mode : ParseMode) (lists : CatalogLists) (text : List ℕ) (tree : ExpressionTree) (terms : List ExpressionReq) → Spells mode lists text tree terms → numbered_from 0 tree ≡ Some (length terms)
in_order mode lists text tree terms spells = numbered spells ∙ ap Some (let e : 0 + length terms ≡ length terms = omega arith in e)

abbrev item_spans : List Item → List Span
item_spans items = map (λ item. item.span) items

abbrev term_spans : List ExpressionReq → List Span
term_spans terms = map (λ term. term.span) terms

lower : (text : List ℕ) (place low : ℕ) (spans : List Span) (end : ℕ) → low ≤ place → Rise text place spans end → Rise text low spans end
lower text place low [] end le rise = omega arith
lower text place low (span ∷ spans) end le rise =
    let b : place ≤ span.start = rise.0.behind in
    (record { behind = omega arith; some = rise.0.some; start_border = rise.0.start_border; end_border = rise.0.end_border }, rise.1)

upper : (text : List ℕ) (place : ℕ) (spans : List Span) (end high : ℕ) → end ≤ high → Rise text place spans end → Rise text place spans high
upper text place [] end high le rise = omega arith
upper text place (span ∷ spans) end high le rise = (rise.0, upper text span.end spans end high le rise.1)

span_of_all : (text : List ℕ) (place : ℕ) (spans : List Span) (end : ℕ) → Rise text place spans end → place ≤ end
span_of_all text place [] end rise = rise
span_of_all text place (span ∷ spans) end rise =
    let more = span_of_all text span.end spans end rise.1 in
    let b : place ≤ span.start = rise.0.behind in
    let s : span.start < span.end = rise.0.some in
    omega arith

record Parts (text : List ℕ) (place : ℕ) (front back : List Item) (end : ℕ) : Type 0 where
  middle : ℕ
  first : Rise text place (item_spans front) middle
  second : Rise text middle (item_spans back) end

parts : (text : List ℕ) (place : ℕ) (front back : List Item) (end : ℕ) → Rise text place (item_spans (front ++ back)) end → Parts text place front back end
parts text place [] back end rise = record { middle = place; first = let e : place ≤ place = omega arith in e; second = rise }
parts text place (it ∷ front) back end rise =
    let p : Parts text it.span.end front back end = parts text it.span.end front back end rise.1 in
    record { middle = p.middle; first = (rise.0, p.first); second = p.second }

joined : (text : List ℕ) (place : ℕ) (some more : List ExpressionReq) (middle end : ℕ) → Rise text place (term_spans some) middle → Rise text middle (term_spans more) end → Rise text place (term_spans (some ++ more)) end
joined text place [] more middle end first second = lower text middle place (term_spans more) end first second
joined text place (term ∷ some) more middle end first second = (first.0, joined text term.span.end some more middle end first.1 second)

term_rise : {allowed : AllowedForms} {rule : Rule} {n : ℕ} {items : List Item} {tree : ExpressionTree} {terms : List ExpressionReq} → ReadsAs allowed rule n items tree terms
    → (text : List ℕ) (place end : ℕ) → Rise text place (item_spans items) end → Rise text place (term_spans terms) end
term_rise (simple n named start to ok) text place end rise = rise
term_rise (simple_with n named name start mid from behind last to ok) text place end rise =
    let a : start < mid = rise.0.some in
    let b : mid ≤ from = rise.1.0.behind in
    let c : from < behind = rise.1.0.some in
    let d : behind ≤ last = rise.1.1.0.behind in
    let e : last < to = rise.1.1.0.some in
    (record { behind = rise.0.behind; some = omega arith; start_border = rise.0.start_border; end_border = rise.1.1.0.end_border }, rise.1.1.1)
term_rise (grouped n from behind last to inner tree terms reads) text place end rise =
    let p = parts text behind inner (record { what = Close; span = record { start = last; end = to } } ∷ []) end rise.1 in
    let a : place ≤ from = rise.0.behind in
    let b : from < behind = rise.0.some in
    let c : p.middle ≤ last = p.second.0.behind in
    let d : last < to = p.second.0.some in
    let e : to ≤ end = p.second.1 in
    lower text behind place (term_spans terms) end (omega arith) (upper text behind (term_spans terms) p.middle end (omega arith) (term_rise reads text behind p.middle p.first))
term_rise (one_part n items tree terms reads) text place end rise = term_rise reads text place end rise
term_rise (and n from to before behind left right some more l r) text place end rise =
    let p = parts text place before (record { what = And; span = record { start = from; end = to } } ∷ behind) end rise in
    let b : p.middle ≤ from = p.second.0.behind in
    let c : from < to = p.second.0.some in
    joined text place some more p.middle end (term_rise l text place p.middle p.first) (lower text to p.middle (term_spans more) end (omega arith) (term_rise r text to end p.second.1))
term_rise (one_conjunction n items tree terms reads) text place end rise = term_rise reads text place end rise
term_rise (or n from to before behind left right some more l r) text place end rise =
    let p = parts text place before (record { what = Or; span = record { start = from; end = to } } ∷ behind) end rise in
    let b : p.middle ≤ from = p.second.0.behind in
    let c : from < to = p.second.0.some in
    joined text place some more p.middle end (term_rise l text place p.middle p.first) (lower text to p.middle (term_spans more) end (omega arith) (term_rise r text to end p.second.1))

-- the terms of an expression follow one another in its text
pub terms_rise : (mode : ParseMode) (lists : CatalogLists) (text : List ℕ) (tree : ExpressionTree) (terms : List ExpressionReq) → IsCatalog lists → IsUtf8 text → Spells mode lists text tree terms → Rise text 0 (term_spans terms) (length text)
terms_rise mode lists text tree terms laws utf8 spells = term_rise spells text 0 (length text) (items_rise mode lists laws text utf8)
