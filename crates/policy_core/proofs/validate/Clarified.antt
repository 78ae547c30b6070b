-- Clarifications that are judged by what reading their expressions answers.
use Rattle.std.proofs.Common.{◌≡◌, ◌∙◌, refl, sym, ap, subst, ℕ, Bool, List, [], ◌∷◌, ◌++◌, append_assoc, Some, None, Ok, Err}
use Rattle.std.specs.List.{AllZip}
use Rattle.std.specs.Option.{option_to_list}
use Rattle.std.specs.Result.{result_ok, result_err}
use Rattle.spdx_terms.specs.catalog.Catalog.{CatalogLists}
use Rattle.diag_core.specs.declared.diagnostic.Diagnostic.{Diagnostic}
use Rattle.spdx_terms.specs.Faults.{first_fault}
use Rattle.spdx_terms.specs.declared.error.ParseError.{ParseError}
use Rattle.spdx_core.specs.Expressions.{IsExpressionRead}
use Rattle.spdx_core.specs.Reading.{ExpressionView, expression_of_text}
use Rattle.spdx_core.proofs.SpellingLemmas.{is_read}
use Rattle.policy_parts.specs.declared.entries.clarification.Clarification.{Clarification}
use Rattle.policy_core.specs.declared.valid.policy.ValidClarification.{ValidClarification}
use Rattle.policy_core.specs.validate.Order.{AddsInOrder, PutsFilesInOrder, PutsJudgedInOrder}
use Rattle.policy_core.specs.validate.Valid.{ItemOrFinding, clarification_judged, clarification_judged_by, kept_by, findings_by_each, no_expression, strict_mode, with_expression}
use Rattle.policy_core.proofs.validate.JudgedLemmas.{kept_more, zipped_append, found_more}

of_read : (lists : CatalogLists) (text : List ℕ) (read : ExpressionView) → IsExpressionRead strict_mode lists text read → expression_of_text strict_mode lists text ≡ Some read
of_read lists text read is =
    is_read strict_mode lists text read.tree read.terms is.spelled
    ∙ ap (λ (own : List ℕ). Some (let e : ExpressionView = record { text = own; terms = read.terms; tree = read.tree } in e)) (sym is.text_kept)

good : (lists : CatalogLists) (file : ℕ) (overlay : Bool) (clarification : Clarification) (read : ExpressionView)
    → IsExpressionRead strict_mode lists clarification.expression.value read
    → clarification_judged lists file overlay clarification ≡ Ok (with_expression file overlay clarification read)
good lists file overlay clarification read is =
    let text = clarification.expression.value in
    ap (λ fault. clarification_judged_by file overlay clarification fault (expression_of_text strict_mode lists text)) is.fine
    ∙ ap (λ found. clarification_judged_by file overlay clarification None found) (of_read lists text read is)

bad : (lists : CatalogLists) (file : ℕ) (overlay : Bool) (clarification : Clarification) (fault : ParseError)
    → first_fault strict_mode lists clarification.expression.value ≡ Some fault
    → clarification_judged lists file overlay clarification ≡ Err (no_expression file clarification fault)
bad lists file overlay clarification fault is =
    let text = clarification.expression.value in
    ap (λ found. clarification_judged_by file overlay clarification found (expression_of_text strict_mode lists text)) is

-- an expression was read, and the clarification is kept with its files in order
pub judged_good : (lists : CatalogLists) (file : ℕ) (overlay : Bool) (clarification : Clarification) (read : ExpressionView) (sorted : ValidClarification)
    → IsExpressionRead strict_mode lists clarification.expression.value read
    → PutsFilesInOrder (with_expression file overlay clarification read) sorted
    → PutsJudgedInOrder (clarification_judged lists file overlay clarification) (Ok sorted)
judged_good lists file overlay clarification read sorted is puts =
    subst (λ (judged : ItemOrFinding ValidClarification). PutsJudgedInOrder judged (Ok sorted)) (sym (good lists file overlay clarification read is)) puts

-- a fault was reported
pub judged_bad : (lists : CatalogLists) (file : ℕ) (overlay : Bool) (clarification : Clarification) (fault : ParseError) (told : Diagnostic)
    → first_fault strict_mode lists clarification.expression.value ≡ Some fault
    → told ≡ no_expression file clarification fault
    → PutsJudgedInOrder (clarification_judged lists file overlay clarification) (Err told)
judged_bad lists file overlay clarification fault told is says =
    subst (λ (judged : ItemOrFinding ValidClarification). PutsJudgedInOrder judged (Err told)) (sym (bad lists file overlay clarification fault is)) says

-- ---- one clarification after another

same_told : (written sorted : ItemOrFinding ValidClarification) → PutsJudgedInOrder written sorted → result_err sorted ≡ result_err written
same_told (Ok written) (Ok sorted) puts = refl
same_told (Ok written) (Err told) puts = absurd puts
same_told (Err told) (Ok sorted) puts = absurd puts
same_told (Err told) (Err other) puts = ap (λ d. Some d) puts

kept_in_order : (written sorted : ItemOrFinding ValidClarification) → PutsJudgedInOrder written sorted
    → AllZip PutsFilesInOrder (option_to_list (result_ok written)) (option_to_list (result_ok sorted))
kept_in_order (Ok written) (Ok sorted) puts = (puts, tt)
kept_in_order (Ok written) (Err told) puts = absurd puts
kept_in_order (Err told) (Ok sorted) puts = absurd puts
kept_in_order (Err told) (Err other) puts = tt

pub clarification_kept : (judge : Clarification → ItemOrFinding ValidClarification) (items : List Clarification) (item : Clarification) (judged : ItemOrFinding ValidClarification)
    (first before after : List ValidClarification)
    → PutsJudgedInOrder (judge item) judged → after ≡ before ++ option_to_list (result_ok judged)
    → AddsInOrder PutsFilesInOrder (kept_by judge items) first before
    → AddsInOrder PutsFilesInOrder (kept_by judge (items ++ item ∷ [])) first after
clarification_kept judge items item judged first before after puts added so_far =
    let more = option_to_list (result_ok judged) in (
      so_far.0 ++ more,
      subst (λ written. AllZip PutsFilesInOrder written (so_far.0 ++ more)) (sym (kept_more judge items item))
          (zipped_append PutsFilesInOrder (kept_by judge items) so_far.0 (option_to_list (result_ok (judge item))) more so_far.1 (kept_in_order (judge item) judged puts)),
      added ∙ ap (λ b. b ++ more) so_far.2 ∙ append_assoc first so_far.0 more,
    )

pub clarification_told : (judge : Clarification → ItemOrFinding ValidClarification) (items : List Clarification) (item : Clarification) (judged : ItemOrFinding ValidClarification)
    (first before after : List Diagnostic)
    → PutsJudgedInOrder (judge item) judged → after ≡ before ++ option_to_list (result_err judged)
    → before ≡ first ++ findings_by_each judge items → after ≡ first ++ findings_by_each judge (items ++ item ∷ [])
clarification_told judge items item judged first before after puts added so_far =
    found_more judge items item (judge item) first before after refl
    (added ∙ ap (λ told. before ++ option_to_list told) (same_told (judge item) judged puts)) so_far
