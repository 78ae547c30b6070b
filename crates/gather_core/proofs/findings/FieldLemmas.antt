-- What a reading of a text answers.
use Rattle.std.proofs.Common.{◌≡◌, ◌∙◌, ℕ, Bool, true, false, eqb, cond, List, [], ◌∷◌, length, Option, Some, None, refl, sym, ap}
use Rattle.std.specs.Option.{IfSome, option_or}
use Rattle.std.specs.Str.{IsUtf8}
use Rattle.std.proofs.lemmas.List.Elements.{All-cons, All-nil}
use Rattle.spdx_terms.specs.catalog.Catalog.{CatalogLists, IsCatalog}
use Rattle.spdx_terms.specs.declared.mode.ParseMode.{ParseMode}
use Rattle.spdx_terms.specs.declared.error.ParseError.{ParseError}
use Rattle.spdx_terms.specs.Faults.{first_fault}
use Rattle.spdx_core.specs.Expressions.{IsExpressionRead}
use Rattle.spdx_core.specs.Reading.{ExpressionView, expression_of_text}
use Rattle.spdx_core.proofs.FaultSpans.{fault_lies}
use Rattle.spdx_core.proofs.HasTree.{has_tree}
use Rattle.spdx_core.proofs.SpellingLemmas.{is_read}
use Rattle.gather_license.proofs.expression.TakenLemmas.{of_fault, of_read}
use Rattle.gather_license.specs.expression.Taken.{field_read, lax_mode, strict_with_slash}
use Rattle.deny_text.specs.Spans.{LiesBetween}
use Rattle.gather_core.specs.findings.Faults.{faults_by, field_faults, same_span}
use Rattle.gather_core.specs.findings.Premises.{FaultsLie}

pub read_of : (mode : ParseMode) (lists : CatalogLists) (text : List ℕ) (read : ExpressionView) → IsExpressionRead mode lists text read → Some read ≡ expression_of_text mode lists text
read_of mode lists text read is = of_read mode lists text read is

pub fault_of : (mode : ParseMode) (lists : CatalogLists) (text : List ℕ) (fault : ParseError) → first_fault mode lists text ≡ Some fault → None ≡ expression_of_text mode lists text
fault_of mode lists text fault is = of_fault mode lists text fault is

-- a field that the strict reading takes
pub strictly_read : (lists : CatalogLists) (byte : ℕ) (bytes : List ℕ) (read : ExpressionView) → expression_of_text strict_with_slash lists (byte ∷ bytes) ≡ Some read
    → field_read lists (byte ∷ bytes) ≡ Some read
strictly_read lists byte bytes read is = ap (λ o. option_or o (expression_of_text lax_mode lists (byte ∷ bytes))) is

pub laxly_read : (lists : CatalogLists) (byte : ℕ) (bytes : List ℕ) → expression_of_text strict_with_slash lists (byte ∷ bytes) ≡ None
    → field_read lists (byte ∷ bytes) ≡ expression_of_text lax_mode lists (byte ∷ bytes)
laxly_read lists byte bytes is = ap (λ o. option_or o (expression_of_text lax_mode lists (byte ∷ bytes))) is

-- a field without a strict fault is what the strict reading gives
pub fine_read : (lists : CatalogLists) (field : List ℕ) (found : Option ExpressionView) → eqb (length field) 0 ≡ false → first_fault strict_with_slash lists field ≡ None
    → found ≡ expression_of_text strict_with_slash lists field → found ≡ field_read lists field
fine_read lists [] found some fine is = cc
fine_read lists (byte ∷ bytes) found some fine is =
    let spelled = has_tree strict_with_slash lists (byte ∷ bytes) fine in
    let own : ExpressionView = record { text = byte ∷ bytes; terms = spelled.1; tree = spelled.0 } in
    let read : expression_of_text strict_with_slash lists (byte ∷ bytes) ≡ Some own = is_read strict_with_slash lists (byte ∷ bytes) spelled.0 spelled.1 spelled.2 in
    is ∙ read ∙ sym (strictly_read lists byte bytes own read)

-- ---- the faults that are reported

either_way : (b : Bool) (none : List ParseError) → none ≡ [] → cond b [] none ≡ []
either_way true none is = refl
either_way false none is = is

-- of a field that the strict reading takes
pub no_faults : (lists : CatalogLists) (field : List ℕ) → first_fault strict_with_slash lists field ≡ None → field_faults lists field ≡ []
no_faults lists field is =
    either_way (eqb (length field) 0) (faults_by (first_fault strict_with_slash lists field) (first_fault lax_mode lists field))
    (ap (λ o. faults_by o (first_fault lax_mode lists field)) is)

-- of one that it refuses
pub some_faults : (lists : CatalogLists) (field : List ℕ) (fault : ParseError) → eqb (length field) 0 ≡ false → first_fault strict_with_slash lists field ≡ Some fault
    → field_faults lists field ≡ faults_by (Some fault) (first_fault lax_mode lists field)
some_faults lists field fault some is =
    ap (λ b. cond b [] (faults_by (first_fault strict_with_slash lists field) (first_fault lax_mode lists field))) some
    ∙ ap (λ o. faults_by o (first_fault lax_mode lists field)) is

-- of the empty field
pub empty_faults : (lists : CatalogLists) (field : List ℕ) → eqb (length field) 0 ≡ true → field_faults lists field ≡ []
empty_faults lists field none =
    ap (λ b. cond b [] (faults_by (first_fault strict_with_slash lists field) (first_fault lax_mode lists field))) none

-- ---- where they are

two_lie : (field : List ℕ) (strict laxly : Option ParseError) → IfSome strict (λ fault. LiesBetween field fault.span) → IfSome laxly (λ fault. LiesBetween field fault.span)
    → FaultsLie field (faults_by strict laxly)
two_lie field None laxly first second = All-nil (λ (one : ParseError). LiesBetween field one.span)
two_lie field (Some fault) None first second = All-cons (λ (one : ParseError). LiesBetween field one.span) fault [] first (All-nil (λ (one : ParseError). LiesBetween field one.span))
two_lie field (Some fault) (Some other) first second =
    let lies : ParseError → Type 0 = λ one. LiesBetween field one.span in
    let last = All-cons lies other [] second (All-nil lies) in
    elim (same_span fault.span other.span) as (λ b. FaultsLie field (cond b (fault ∷ []) (fault ∷ other ∷ []))) [
      | true ↦ All-cons lies fault [] first (All-nil lies)
      | false ↦ All-cons lies fault (other ∷ []) first last
    ]

one_lies : (mode : ParseMode) (lists : CatalogLists) (field : List ℕ) → IsCatalog lists → IsUtf8 field → (found : Option ParseError) → first_fault mode lists field ≡ found
    → IfSome found (λ fault. LiesBetween field fault.span)
one_lies mode lists field laws utf8 None is = tt
one_lies mode lists field laws utf8 (Some fault) is = fault_lies mode lists field fault laws utf8 is

pub faults_lie : (lists : CatalogLists) (field : List ℕ) → IsCatalog lists → IsUtf8 field → FaultsLie field (field_faults lists field)
faults_lie lists field laws utf8 =
    let strictly = one_lies strict_with_slash lists field laws utf8 (first_fault strict_with_slash lists field) refl in
    let laxly = one_lies lax_mode lists field laws utf8 (first_fault lax_mode lists field) refl in
    elim (eqb (length field) 0) as (λ b. FaultsLie field (cond b [] (faults_by (first_fault strict_with_slash lists field) (first_fault lax_mode lists field)))) [
      | true ↦ All-nil (λ (one : ParseError). LiesBetween field one.span)
      | false ↦ two_lie field (first_fault strict_with_slash lists field) (first_fault lax_mode lists field) strictly laxly
    ]
