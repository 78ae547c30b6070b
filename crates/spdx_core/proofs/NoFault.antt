-- What is spelled has no fault.
use Rattle.std.proofs.lemmas.Bool.{true≢false}
use Rattle.std.proofs.Common.{◌≡◌, ◌∙◌, refl, sym, ap, ℕ, Bool, true, List, [], ◌∷◌, ◌++◌, append_assoc, append-nil, Option, None, is_some, length}
use Rattle.deny_text.specs.declared.span.Span.{Span}
use Rattle.spdx_terms.specs.declared.mode.ParseMode.{ParseMode}
use Rattle.spdx_terms.specs.declared.error.ParseError.{ParseError}
use Rattle.spdx_terms.specs.declared.error.ParseReason.TheVariants.{Unexpected}
use Rattle.spdx_terms.specs.declared.term.ExpressionReq.{ExpressionReq}
use Rattle.spdx_terms.specs.declared.item.WantedItem.{WantedItem}
use Rattle.spdx_terms.specs.declared.item.WantedItem.TheVariants.{Term as wants_term, AfterTerm, AfterPart}
use Rattle.spdx_terms.specs.declared.item.ItemKind.TheVariants.{And, Or, Close}
use Rattle.spdx_terms.specs.declared.item.Item.{Item}
use Rattle.spdx_terms.specs.catalog.Catalog.{CatalogLists}
use Rattle.spdx_terms.specs.Items.{items_of}
use Rattle.spdx_terms.specs.Faults.{fault_from, fault_of, first_fault, first_of, fault_unless, takes_operator, end_fault}
use Rattle.spdx_terms.proofs.FaultLemmas.{marks_untold}
use Rattle.spdx_core.specs.Grammar.{ExpressionTree, Rule, expression, ReadsAs, Spells, allowed_in, simple, simple_with, grouped, one_part, and, one_conjunction, or, item}

-- the faults of items behind what was read are those from a place that takes an operator
pub record Clean (mode : ParseMode) (len : ℕ) (opened : List Span) (rest items : List Item) : Type 0 where
  pub wanted : WantedItem
  pub operator : takes_operator wanted ≡ true
  pub same : fault_from mode len wants_term opened (items ++ rest) ≡ fault_from mode len wanted opened rest

fine : (b : Bool) (span : Span) (later : Option ParseError) → b ≡ true → first_of (fault_unless b Unexpected span) later ≡ later
fine b span later is = ap (λ t. first_of (fault_unless t Unexpected span) later) is

pub clean : (mode : ParseMode) {rule : Rule} {n : ℕ} {items : List Item} {tree : ExpressionTree} {terms : List ExpressionReq} → ReadsAs (allowed_in mode) rule n items tree terms → (len : ℕ) (opened : List Span) (rest : List Item) → Clean mode len opened rest items
clean mode (simple n named start end ok) len opened rest = record {
  wanted = AfterTerm;
  operator = refl;
  same = ap (λ fault. first_of fault (fault_from mode len AfterTerm opened rest)) (marks_untold mode named (record { start = start; end = end }) ok);
}
clean mode (simple_with n named name start mid from to last end ok) len opened rest = record {
  wanted = AfterPart;
  operator = refl;
  same = ap (λ fault. first_of fault (fault_from mode len AfterPart opened rest)) (marks_untold mode named (record { start = start; end = mid }) ok);
}
clean mode (grouped n from to last end inner tree terms reads) len opened rest =
    let c = clean mode reads len (record { start = from; end = to } ∷ opened) (item Close last end ∷ rest) in
    record {
      wanted = AfterPart;
      operator = refl;
      same = ap (λ all. fault_from mode len wants_term (record { start = from; end = to } ∷ opened) all) (append_assoc inner (item Close last end ∷ []) rest)
          ∙ c.same ∙ fine (takes_operator c.wanted) (record { start = last; end = end }) (fault_from mode len AfterPart opened rest) c.operator;
    }
clean mode (one_part n items tree terms reads) len opened rest = clean mode reads len opened rest
clean mode (and n from to before behind left right some more reads_left reads_right) len opened rest =
    let l = clean mode reads_left len opened (item And from to ∷ (behind ++ rest)) in
    let r = clean mode reads_right len opened rest in
    record {
      wanted = r.wanted;
      operator = r.operator;
      same = ap (λ all. fault_from mode len wants_term opened all) (append_assoc before (item And from to ∷ behind) rest)
          ∙ l.same ∙ fine (takes_operator l.wanted) (record { start = from; end = to }) (fault_from mode len wants_term opened (behind ++ rest)) l.operator ∙ r.same;
    }
clean mode (one_conjunction n items tree terms reads) len opened rest = clean mode reads len opened rest
clean mode (or n from to before behind left right some more reads_left reads_right) len opened rest =
    let l = clean mode reads_left len opened (item Or from to ∷ (behind ++ rest)) in
    let r = clean mode reads_right len opened rest in
    record {
      wanted = r.wanted;
      operator = r.operator;
      same = ap (λ all. fault_from mode len wants_term opened all) (append_assoc before (item Or from to ∷ behind) rest)
          ∙ l.same ∙ fine (takes_operator l.wanted) (record { start = from; end = to }) (fault_from mode len wants_term opened (behind ++ rest)) l.operator ∙ r.same;
    }

ended : (len : ℕ) (wanted : WantedItem) → takes_operator wanted ≡ true → end_fault len wanted None ≡ None
ended len wanted is = rw is refl

no_fault_items : (mode : ParseMode) (len : ℕ) (items : List Item) (tree : ExpressionTree) (terms : List ExpressionReq) → ReadsAs (allowed_in mode) expression 0 items tree terms → fault_of mode len items ≡ None
no_fault_items mode len [] tree terms reads =
    let c = clean mode reads len [] [] in absurd (true≢false (ap is_some (c.same ∙ ended len c.wanted c.operator)))
no_fault_items mode len (it ∷ items) tree terms reads =
    let c = clean mode reads len [] [] in
    ap (fault_from mode len wants_term []) (sym (append-nil (it ∷ items))) ∙ c.same ∙ ended len c.wanted c.operator

-- a text that has a tree has no fault
pub no_fault : (mode : ParseMode) (lists : CatalogLists) (text : List ℕ) (tree : ExpressionTree) (terms : List ExpressionReq) → Spells mode lists text tree terms → first_fault mode lists text ≡ None
no_fault mode lists text tree terms spells = no_fault_items mode (length text) (items_of mode lists text) tree terms spells
