-- What a bill says of the licence of a crate.
use Rattle.std.specs.Prelude.{ℕ, Bool, true, false, List, [], ◌∷◌, ◌++◌, codes, Option, Some, None, if◌then◌else◌}
use Rattle.std.specs.List.{flat_map, list_any}
use Rattle.std.specs.Option.{option_map_or}
use Rattle.spdx_terms.specs.declared.term.ExpressionReq.{ExpressionReq}
use Rattle.spdx_terms.specs.declared.term.LicenseItem.{LicenseItem}
use Rattle.spdx_terms.specs.declared.term.LicenseItem.TheVariants.{Spdx, Reference}
use Rattle.spdx_core.specs.Reading.{ExpressionView}
use Rattle.spdx_core.specs.declared.certificates.verdict.Verdict.{Verdict}
use Rattle.spdx_core.specs.declared.certificates.verdict.Verdict.TheVariants.{Skipped, Unlicensed, Accepted, Rejected}
use Rattle.spdx_printed.specs.Printed.{printed_of, term_text}
use Rattle.check_core.specs.declared.report.CrateReport.{CrateReport}
pub use Rattle.check_core.specs.Verdicts.{is_skipped}

-- where nothing is asserted
abbrev pub no_assertion : List ℕ
no_assertion = codes "NOASSERTION"

abbrev pub is_reference : LicenseItem → Bool
is_reference (Spdx name family rank later plus) = false
is_reference (Reference doc id) = true

-- a term is a reference, whose text no reader of the bill has
abbrev pub has_reference : ExpressionView → Bool
has_reference expression = list_any (λ term. is_reference term.req.item) expression.terms

abbrev pub without_reference : ExpressionView → Option ExpressionView
without_reference expression = if has_reference expression then None else Some expression

abbrev pub of_expression : Option ExpressionView → Option ExpressionView
of_expression None = None
of_expression (Some expression) = without_reference expression

-- the expression of which something is asserted: it has no reference, and its crate is not skipped
abbrev pub asserted : CrateReport → Option ExpressionView
asserted report = if is_skipped report.verdict then None else of_expression report.expression

-- ---- the licence that is declared

-- such an expression, as it is printed
abbrev pub declared_of : CrateReport → List ℕ
declared_of report =
    option_map_or (λ expression. printed_of expression.terms expression.tree) (asserted report) no_assertion

-- ---- the licence that is concluded

-- the terms at some places, with ` AND ` between
abbrev pub and_term : List ExpressionReq → ℕ → List ℕ
and_term terms place = codes " AND " ++ term_text terms place

abbrev pub joined : List ExpressionReq → List ℕ → List ℕ
joined terms [] = []
joined terms (place ∷ places) = term_text terms place ++ flat_map (and_term terms) places

-- those of the choice that an accepted expression has
abbrev pub chosen : ExpressionView → Verdict → List ℕ
chosen expression Skipped = no_assertion
chosen expression Unlicensed = no_assertion
chosen expression (Accepted choice hits) = joined expression.terms choice
chosen expression (Rejected least blocks) = no_assertion

abbrev pub concluded_of : CrateReport → List ℕ
concluded_of report = option_map_or (λ expression. chosen expression report.verdict) (asserted report) no_assertion
