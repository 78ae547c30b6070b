-- Places in a text that is in another.
use Rattle.std.proofs.Common.{◌≡◌, ◌∙◌, refl, sym, ap, subst, ℕ, ◌+◌, ◌-◌, ◌<◌, ◌≤◌, ◌⊎◌, inl, inr, List, [], ◌∷◌, length, map, take, drop, get_or, Option, Some, None, arith}
use Rattle.std.specs.Prelude.{slice_range}
use Rattle.std.specs.List.{AllZip}
use Rattle.std.specs.Str.{IsCharBoundary}
use Rattle.std.proofs.Math.Nat.{eq-or-lt_of_le}
use Rattle.std.proofs.lemmas.List.{get_or-take, get_or-drop, take-take, drop-take, drop-drop}
use Rattle.deny_text.specs.Spans.{moved_span}
use Rattle.deny_text.specs.declared.span.Span.{Span}
use Rattle.spdx_terms.specs.declared.term.ExpressionReq.{ExpressionReq}
use Rattle.spdx_terms.specs.Spans.{LiesFrom, Rise}
use Rattle.spdx_core.specs.Expressions.{IsExpression}
use Rattle.spdx_core.specs.Reading.{ExpressionView}
use Rattle.spdx_core.specs.declared.certificates.verdict.Hit.{Hit}
use Rattle.diag_core.specs.File.{File}
use Rattle.gather_license.specs.location.Location.{PointsAt}
use Rattle.gather_core.specs.declared.findings.license.LicenseExprInfo.{LicenseExprInfo}
use Rattle.gather_core.specs.findings.License.{Stands, StandsIn}
use Rattle.check_core.specs.findings.Findings.{term_label, term_labels}
use Rattle.check_core.specs.findings.Laws.{LabelsPoint, term_text}
use Rattle.check_core.specs.findings.Places.{all_of, span_by, LabelPoints, PointsBy}
use Rattle.check_core.proofs.findings.PlaceLemmas.{span_of}

-- ---- a text that is in another from a place on

module _ (source text : List ℕ) (start : ℕ) (is : slice_range source start (start + length text) ≡ text) (ends : IsCharBoundary source (start + length text)) where
  byte : (i : ℕ) → i < length text → get_or text i 0 ≡ get_or source (start + i) 0
  byte i below =
      let low : i < (start + length text) - start = omega arith in
      ap (λ (l : List ℕ). get_or l i 0) (sym is) ∙ get_or-take ((start + length text) - start) (drop start source) i 0 low ∙ get_or-drop start source i 0

  border_by : (i : ℕ) → IsCharBoundary text i → ((i ≡ length text) ⊎ (i < length text)) → IsCharBoundary source (start + i)
  border_by i border (inl at_end) = let e : start + length text ≡ start + i = omega arith in subst (IsCharBoundary source) e ends
  border_by i border (inr below) =
      let within = ends.0 in (
        omega arith,
        λ fits high.
            let lead = border.1 below (subst (λ (n : ℕ). 128 ≤ n) (sym (byte i below)) high) in
            subst (λ (n : ℕ). 192 ≤ n) (byte i below) lead,
      )

  -- a border of the text is one of the other
  pub border : (i : ℕ) → IsCharBoundary text i → IsCharBoundary source (start + i)
  border i is_border = border_by i is_border (eq-or-lt_of_le is_border.0)

  -- and so is a part
  pub part : (a b : ℕ) → a ≤ b → b ≤ length text → slice_range source (start + a) (start + b) ≡ slice_range text a b
  part a b ordered within =
      let long : (start + length text) - start ≡ length text = omega arith in
      let short : (start + b) - (start + a) ≡ b - a = omega arith in
      let room : a + (length text - a) ≡ length text = omega arith in
      let fewer : b - a ≤ length text - a = omega arith in
      let whole : take (length text) (drop start source) ≡ text = ap (λ (m : ℕ). take m (drop start source)) (sym long) ∙ is in
      let behind : drop a text ≡ take (length text - a) (drop (start + a) source) =
      ap (drop a) (sym whole) ∙ ap (λ (m : ℕ). drop a (take m (drop start source))) (sym room)
      ∙ drop-take a (length text - a) (drop start source) ∙ ap (take (length text - a)) (drop-drop a start source) in
      ap (λ (m : ℕ). take m (drop (start + a) source)) short
      ∙ sym (ap (take (b - a)) behind ∙ take-take (b - a) (length text - a) (drop (start + a) source) fewer)

-- ---- in a table of files

-- in a file of the table, a part of the text that is there
part_cut : (files : List File) (file start : ℕ) (text : List ℕ) (span : Span) → span.start ≤ span.end → IsCharBoundary text span.start → IsCharBoundary text span.end
    → PointsAt files (record { file = file; span = record { start = start; end = start + length text } }) text
    → PointsAt files (record { file = file; span = moved_span start span }) (slice_range text span.start span.end)
part_cut files file start text span ordered starts ends points =
    let is : slice_range points.source start (start + length text) ≡ text = points.cuts.cut_out in
    let last : IsCharBoundary points.source (start + length text) = points.cuts.ends in
    let within : span.end ≤ length text = ends.0 in
    record {
      source = points.source;
      is_source = points.is_source;
      cuts = record {
        ordered = omega arith;
        starts = border points.source text start is last span.start starts;
        ends = border points.source text start is last span.end ends;
        cut_out = part points.source text start is last span.start span.end ordered within;
      };
    }

part_points : (files : List File) (file start : ℕ) (text : List ℕ) (span : Span) → span.start ≤ span.end → IsCharBoundary text span.start → IsCharBoundary text span.end
    → (whole : Option Span) → StandsIn files file start whole text
    → PointsBy files file (span_by start span whole) (slice_range text span.start span.end) whole
part_points files file start text span ordered starts ends None stands = part_cut files file start text span ordered starts ends stands.points
part_points files file start text span ordered starts ends (Some whole) stands = (stands, refl)

-- the text as a whole
whole_points : (files : List File) (file start : ℕ) (text : List ℕ) (whole : Option Span) → StandsIn files file start whole text
    → PointsBy files file (span_by start (all_of text) whole) text whole
whole_points files file start text None stands =
    let none_more : start + 0 ≡ start = omega arith in
    subst (λ (n : ℕ). PointsAt files (record { file = file; span = record { start = n; end = start + length text } }) text) (sym none_more) stands.points
whole_points files file start text (Some whole) stands = (stands, refl)

term_points : (files : List File) (nfo : LicenseExprInfo) (text : List ℕ) (place : ℕ) (term : ExpressionReq) (hit : Option Hit) → Stands files nfo text → LiesFrom text place term.span
    → LabelPoints files nfo (term_text text term) (term_label nfo term.span hit)
term_points files nfo text place term hit stands lies =
    let some : term.span.start < term.span.end = lies.some in
    record { of_file = refl; points = part_points files nfo.file_id nfo.offset text term.span (omega arith) lies.start_border lies.end_border nfo.whole stands }

each_points : (files : List File) (nfo : LicenseExprInfo) (text : List ℕ) (place : ℕ) (terms : List ExpressionReq) (hits : List (Option Hit)) → Stands files nfo text
    → Rise text place (map span_of terms) (length text) → AllZip (λ term label. LabelPoints files nfo (term_text text term) label) terms (term_labels nfo terms hits)
each_points files nfo text place [] hits stands rise = tt
each_points files nfo text place (term ∷ terms) [] stands rise =
    (term_points files nfo text place term None stands rise.0, each_points files nfo text term.span.end terms [] stands rise.1)
each_points files nfo text place (term ∷ terms) (hit ∷ hits) stands rise =
    (term_points files nfo text place term hit stands rise.0, each_points files nfo text term.span.end terms hits stands rise.1)

pub labels_point : (files : List File) (expression : ExpressionView) (nfo : LicenseExprInfo) (hits : List (Option Hit))
    → IsExpression expression.text expression.terms expression.tree → Stands files nfo expression.text → LabelsPoint files expression nfo hits
labels_point files expression nfo hits facts stands = record {
  whole = record { of_file = refl; points = whole_points files nfo.file_id nfo.offset expression.text nfo.whole stands };
  terms = each_points files nfo expression.text 0 expression.terms hits stands facts.spans;
}
