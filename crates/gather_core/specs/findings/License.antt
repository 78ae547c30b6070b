-- The expression of a licence, and where it is there.
use Rattle.std.specs.Prelude.{◌≡◌, ℕ, ◌+◌, ◌^◌, ◌<◌, ◌≤◌, List, length, Option, Some, None, ⊤}
use Rattle.std.specs.Str.{IsCharBoundary}
use Rattle.deny_text.specs.declared.span.Span.{Span}
use Rattle.spdx_core.specs.Reading.{ExpressionView}
use Rattle.diag_core.specs.File.{File, source_of_file}
use Rattle.gather_license.specs.location.Location.{PointsAt}
use Rattle.gather_core.specs.declared.findings.license.LicenseExprInfo.{LicenseExprInfo}
use Rattle.gather_core.specs.declared.findings.license.LicenseInfo.{LicenseInfo}
use Rattle.gather_core.specs.declared.findings.license.LicenseInfo.TheVariants.{SpdxExpression, Unlicensed}

-- the expression, where there is one
abbrev pub expression_of : LicenseInfo → Option ExpressionView
expression_of Unlicensed = None
expression_of (SpdxExpression expression nfo) = Some expression

-- ---- where it is there

-- a place lies in the text of a file of the table, between characters
pub record PlaceLies (files : List File) (file : ℕ) (span : Span) : Type 0 where
  pub source : List ℕ
  pub is_source : source_of_file files file ≡ Some source
  pub ordered : span.start ≤ span.end
  pub starts : IsCharBoundary source span.start
  pub ends : IsCharBoundary source span.end

-- a text is in a file of the table from an offset on, and its end is a place of 64 bits
pub record TextStands (files : List File) (file offset : ℕ) (text : List ℕ) : Type 0 where
  pub points : PointsAt files
      (record { file = file; span = record { start = offset; end = offset + length text } }) text
  pub fits : offset + length text < 2 ^ 64

-- An expression is in a file: where its string has escapes, the place of that lies there; else its text is there from
-- its offset on.
abbrev pub StandsIn : List File → ℕ → ℕ → Option Span → List ℕ → Type 0
StandsIn files file offset (Some place) text = PlaceLies files file place
StandsIn files file offset None text = TextStands files file offset text

-- the text of an expression is where it is said to
abbrev pub Stands : List File → LicenseExprInfo → List ℕ → Type 0
Stands files nfo text = StandsIn files nfo.file_id nfo.offset nfo.whole text

-- the expression of a crate, where there is one, is in its file
abbrev pub InfoStands : List File → LicenseInfo → Type 0
InfoStands files Unlicensed = ⊤
InfoStands files (SpdxExpression expression nfo) = Stands files nfo expression.text
