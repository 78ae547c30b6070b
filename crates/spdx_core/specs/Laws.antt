-- What holds of all licence expressions.
use Rattle.std.specs.Prelude.{◌≡◌, ◌↔◌, ℕ, true, false, IsTrue, List, Option, Some, None, length, map}
use Rattle.std.specs.Str.{IsUtf8}
use Rattle.deny_text.specs.Spans.{LiesBetween}
use Rattle.spdx_terms.specs.catalog.Catalog.{CatalogLists, IsCatalog}
use Rattle.spdx_terms.specs.declared.error.ParseError.{ParseError}
use Rattle.spdx_terms.specs.declared.mode.ParseMode.{ParseMode}
use Rattle.spdx_terms.specs.declared.term.ExpressionReq.{ExpressionReq}
use Rattle.spdx_terms.specs.declared.term.LicenseReq.{LicenseReq}
use Rattle.spdx_terms.specs.Faults.{first_fault, licensee_fault}
use Rattle.spdx_terms.specs.Laws.{with_slash, has_no_slash}
use Rattle.spdx_terms.specs.Licensee.{IsLicensee}
use Rattle.spdx_terms.specs.Spans.{Rise}
use Rattle.spdx_core.specs.Grammar.{ExpressionTree, Spells}
use Rattle.spdx_core.specs.Reading.{ExpressionView, expression_of_text, numbered_from}

-- a text has a tree exactly where it has no fault
abbrev pub TreeOrFault : Type 0
TreeOrFault =
    (mode : ParseMode) (lists : CatalogLists) (text : List ℕ)
    → (first_fault mode lists text ≡ None)
    ↔ ((tree : ExpressionTree) × (terms : List ExpressionReq) × Spells mode lists text tree terms)

-- what spells a text is the expression that the plain reader finds, so there is at most one
abbrev pub OneTree : Type 0
OneTree = (mode : ParseMode) (lists : CatalogLists) (text : List ℕ) (tree : ExpressionTree) (terms : List ExpressionReq)
    → Spells mode lists text tree terms
    → expression_of_text mode lists text ≡ Some (record { text = text; terms = terms; tree = tree })

-- and the expression that it finds is spelled by the text
abbrev pub ReadIsSpelled : Type 0
ReadIsSpelled = (mode : ParseMode) (lists : CatalogLists) (text : List ℕ) (expression : ExpressionView)
    → expression_of_text mode lists text ≡ Some expression
    → (expression.text ≡ text) × Spells mode lists text expression.tree expression.terms

-- where no slash is in a text, the slash changes neither tree nor terms
abbrev pub SlashIsStrict : Type 0
SlashIsStrict =
    (mode : ParseMode) (lists : CatalogLists) (text : List ℕ) (tree : ExpressionTree) (terms : List ExpressionReq)
    → IsTrue (has_no_slash text) → Spells (with_slash true mode) lists text tree terms
    → Spells (with_slash false mode) lists text tree terms

-- the places of a tree are those of its terms in text order
abbrev pub PlacesInOrder : Type 0
PlacesInOrder =
    (mode : ParseMode) (lists : CatalogLists) (text : List ℕ) (tree : ExpressionTree) (terms : List ExpressionReq)
    → Spells mode lists text tree terms → numbered_from 0 tree ≡ Some (length terms)

-- the spans of terms follow one another in the text, are not empty, and stand on character borders
abbrev pub TermsRise : Type 0
TermsRise =
    (mode : ParseMode) (lists : CatalogLists) (text : List ℕ) (tree : ExpressionTree) (terms : List ExpressionReq)
    → IsCatalog lists → IsUtf8 text → Spells mode lists text tree terms
    → Rise text 0 (map (λ term. term.span) terms) (length text)

-- a text is a licensee exactly where it has no fault
abbrev pub LicenseeOrFault : Type 0
LicenseeOrFault =
    (mode : ParseMode) (lists : CatalogLists) (text : List ℕ)
    → (licensee_fault mode lists text ≡ None) ↔ ((req : LicenseReq) × IsLicensee mode lists text req)

-- what is wrong with a text is reported at a place of it
abbrev pub FaultsLieIn : (ParseMode → CatalogLists → List ℕ → Option ParseError) → Type 0
FaultsLieIn fault_in =
    (mode : ParseMode) (lists : CatalogLists) (text : List ℕ) (fault : ParseError) → IsCatalog lists → IsUtf8 text
    → fault_in mode lists text ≡ Some fault → LiesBetween text fault.span
