-- What is in a table of files is in each longer one.
use Rattle.std.proofs.Common.{◌≡◌, ℕ, zero, suc, ◌+◌, length, List, [], ◌∷◌, ◌++◌, Option, None, Some}
use Rattle.deny_text.specs.declared.span.Span.{Span}
use Rattle.diag_core.specs.declared.label.Coord.{Coord}
use Rattle.diag_core.specs.File.{File, source_of_file}
use Rattle.gather_license.specs.location.Location.{PointsAt}
use Rattle.gather_core.specs.declared.findings.license.LicenseInfo.{LicenseInfo}
use Rattle.gather_core.specs.declared.findings.license.LicenseInfo.TheVariants.{SpdxExpression, Unlicensed}
use Rattle.gather_core.specs.findings.License.{InfoStands, PlaceLies, StandsIn}

pub source_grown : (files more : List File) (id : ℕ) (source : List ℕ) → source_of_file files id ≡ Some source → source_of_file (files ++ more) id ≡ Some source
source_grown [] more zero source is = absurd (cc is)
source_grown [] more (suc id) source is = absurd (cc is)
source_grown (first ∷ files) more zero source is = is
source_grown (first ∷ files) more (suc id) source is = source_grown files more id source is

pub place_grown : (files more : List File) (file : ℕ) (span : Span) → PlaceLies files file span → PlaceLies (files ++ more) file span
place_grown files more file span lies = record {
  source = lies.source;
  is_source = source_grown files more file lies.source lies.is_source;
  ordered = lies.ordered;
  starts = lies.starts;
  ends = lies.ends;
}

pub points_grown : (files more : List File) (at : Coord) (bytes : List ℕ) → PointsAt files at bytes → PointsAt (files ++ more) at bytes
points_grown files more at bytes points = record {
  source = points.source;
  is_source = source_grown files more at.file points.source points.is_source;
  cuts = points.cuts;
}

pub stands_grown : (files more : List File) (file offset : ℕ) (whole : Option Span) (words : List ℕ) → StandsIn files file offset whole words → StandsIn (files ++ more) file offset whole words
stands_grown files more file offset (Some place) words stands = place_grown files more file place stands
stands_grown files more file offset None words stands = record {
  points = points_grown files more (record { file = file; span = record { start = offset; end = offset + length words } }) words stands.points;
  fits = stands.fits;
}

pub info_grown : (files more : List File) (info : LicenseInfo) → InfoStands files info → InfoStands (files ++ more) info
info_grown files more Unlicensed stands = tt
info_grown files more (SpdxExpression expression nfo) stands = stands_grown files more nfo.file_id nfo.offset nfo.whole expression.text stands
