-- Places in an expression's text, as places in its file.
use Rattle.std.specs.Prelude.{◌≡◌, ℕ, ◌+◌, ◌^◌, ◌<◌, List, length, Option, Some, None, ⊤}
use Rattle.deny_text.specs.Spans.{moved_span}
use Rattle.deny_text.specs.declared.span.Span.{Span}
use Rattle.spdx_terms.specs.declared.term.ExpressionReq.{ExpressionReq}
use Rattle.diag_core.specs.declared.label.Label.{Label}
use Rattle.diag_core.specs.File.{File}
use Rattle.gather_license.specs.location.Location.{PointsAt}
use Rattle.gather_core.specs.declared.findings.license.LicenseExprInfo.{LicenseExprInfo}
use Rattle.gather_core.specs.findings.License.{PlaceLies}

abbrev pub span_by : ℕ → Span → Option Span → Span
span_by start inner None = moved_span start inner
span_by start inner (Some whole) = whole

-- a place in an expression's text, as a place in its file; where the string has escapes it is the whole string
abbrev pub span_in_file : LicenseExprInfo → Span → Span
span_in_file nfo inner = span_by nfo.offset inner nfo.whole

abbrev pub FitsBy : ℕ → Option Span → Type 0
FitsBy place None = place < 2 ^ 64
FitsBy place (Some whole) = ⊤

-- so far into the expression's text, the place in the file is one of 64 bits
abbrev pub PlaceFits : LicenseExprInfo → ℕ → Type 0
PlaceFits nfo far = FitsBy (nfo.offset + far) nfo.whole

-- both ends of a place in the text
pub record SpanFits (nfo : LicenseExprInfo) (span : Span) : Type 0 where
  pub start : PlaceFits nfo span.start
  pub end : PlaceFits nfo span.end

abbrev pub TermFits : LicenseExprInfo → ExpressionReq → Type 0
TermFits nfo term = SpanFits nfo term.span

-- ---- in the table of files

-- these bytes as a whole, counted from their first
abbrev pub all_of : List ℕ → Span
all_of bytes = record { start = 0; end = length bytes }

-- A place of an expression's text points at a part of it: it cuts out the part, or where the string has escapes it is
-- the string, which lies in the file.
abbrev pub PointsBy : List File → ℕ → Span → List ℕ → Option Span → Type 0
PointsBy files file span part None = PointsAt files (record { file = file; span = span }) part
PointsBy files file span part (Some whole) = PlaceLies files file span × (span ≡ whole)

-- a label of an expression points at a part of its text
pub record LabelPoints (files : List File) (nfo : LicenseExprInfo) (part : List ℕ) (label : Label) : Type 0 where
  pub of_file : label.file_id ≡ nfo.file_id
  pub points : PointsBy files nfo.file_id label.range part nfo.whole
