-- Places in an expression's text that are places of 64 bits.
use Rattle.std.proofs.Common.{ℕ, ◌+◌, ◌<◌, ◌≤◌, List, [], ◌∷◌, length, map, Option, Some, None, arith}
use Rattle.std.specs.List.{All, AllByRecursion}
use Rattle.std.proofs.lemmas.List.Elements.{All-from_recursion}
use Rattle.deny_text.specs.declared.span.Span.{Span}
use Rattle.spdx_terms.specs.declared.term.ExpressionReq.{ExpressionReq}
use Rattle.spdx_terms.specs.Spans.{Rise}
use Rattle.gather_core.specs.declared.findings.license.LicenseExprInfo.{LicenseExprInfo}
use Rattle.check_core.specs.findings.Places.{PlaceFits, FitsBy, SpanFits, TermFits}

fits_by_less : (low high : ℕ) (whole : Option Span) → low ≤ high → FitsBy high whole → FitsBy low whole
fits_by_less low high None below fits = omega arith
fits_by_less low high (Some whole) below fits = tt

pub fits_less : (nfo : LicenseExprInfo) (near far : ℕ) → near ≤ far → PlaceFits nfo far → PlaceFits nfo near
fits_less nfo near far below fits = fits_by_less (nfo.offset + near) (nfo.offset + far) nfo.whole (omega arith) fits

pub has_room : (nfo : LicenseExprInfo) (span : Span) (far : ℕ) → span.start ≤ far → span.end ≤ far → PlaceFits nfo far → SpanFits nfo span
has_room nfo span far start end fits = record { start = fits_less nfo span.start far start fits; end = fits_less nfo span.end far end fits }

-- what rises up to a place lies before it
pub rises_below : (text : List ℕ) (place end : ℕ) (spans : List Span) → Rise text place spans end → place ≤ end
rises_below text place end [] rise = rise
rises_below text place end (span ∷ spans) rise =
    let behind : place ≤ span.start = rise.0.behind in
    let some : span.start < span.end = rise.0.some in
    let rest : span.end ≤ end = rises_below text span.end end spans rise.1 in
    omega arith

abbrev pub span_of : ExpressionReq → Span
span_of term = term.span

each_has_room : (nfo : LicenseExprInfo) (text : List ℕ) (place far : ℕ) (terms : List ExpressionReq) → Rise text place (map span_of terms) far → PlaceFits nfo far
    → AllByRecursion (TermFits nfo) terms
each_has_room nfo text place far [] rise fits = tt
each_has_room nfo text place far (term ∷ terms) rise fits =
    let some : term.span.start < term.span.end = rise.0.some in
    let rest : term.span.end ≤ far = rises_below text term.span.end far (map span_of terms) rise.1 in
    (has_room nfo term.span far (omega arith) rest fits, each_has_room nfo text term.span.end far terms rise.1 fits)

-- where the end of the text fits, each term does
pub terms_have_room : (nfo : LicenseExprInfo) (text : List ℕ) (terms : List ExpressionReq) → Rise text 0 (map span_of terms) (length text) → PlaceFits nfo (length text)
    → All (TermFits nfo) terms
terms_have_room nfo text terms rise fits = All-from_recursion (TermFits nfo) terms (each_has_room nfo text 0 (length text) terms rise fits)
