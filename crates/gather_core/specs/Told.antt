-- What is reported of a crate's licence.
use Rattle.std.specs.Prelude.{ℕ, Bool, List, [], Option, Some, None, option_map, if◌then◌else◌}
use Rattle.std.specs.Option.{option_map_or}
use Rattle.diag_core.specs.declared.label.Coord.{Coord}
use Rattle.gather_license.specs.declared.settling.LicenseBasis.{LicenseBasis}
use Rattle.gather_license.specs.declared.settling.LicenseBasis.TheVariants.{Clarified, Field, Files}
use Rattle.gather_license.specs.declared.settling.JoinedNames.{JoinedNames}
use Rattle.gather_license.specs.Priority.{LicenseAnswer, ExpressionSource, metadata, user_override, overlay_override}
use Rattle.gather_license.specs.Priority.{license_files}
use Rattle.gather_core.specs.declared.findings.license.LicenseExprInfo.{LicenseExprInfo}
use Rattle.gather_core.specs.declared.findings.license.LicenseExprSource.{LicenseExprSource}
use Rattle.gather_core.specs.declared.findings.license.LicenseExprSource.TheVariants.{Metadata, UserOverride}
use Rattle.gather_core.specs.declared.findings.license.LicenseExprSource.TheVariants.{OverlayOverride, LicenseFiles}
use Rattle.gather_core.specs.declared.findings.license.LicenseInfo.{LicenseInfo}
use Rattle.gather_core.specs.declared.findings.license.LicenseInfo.TheVariants.{SpdxExpression, Unlicensed}

-- ---- where an expression's text is

-- at a place of a file of the table
abbrev pub info_at : Coord → LicenseExprSource → LicenseExprInfo
info_at at source = record { file_id = at.file; offset = at.span.start; whole = None; source = source }

abbrev pub no_place : Coord
no_place = record { file = 0; span = record { start = 0; end = 0 } }

-- a field by its location, where that counts
abbrev pub field_source : Option Coord → LicenseExprSource
field_source location = Metadata (option_map (λ at. (at.file, at.span)) location)

-- a clarification, by whether it is one of the exceptions file
abbrev pub clarified_source : Bool → LicenseExprSource
clarified_source overlay = if overlay then OverlayOverride else UserOverride

-- The licence that is reported: of a clarification, its expression with its place in the clarification's file; of a
-- field and of joined names, the place that finding has given them.
abbrev pub joined_info : Coord → Option JoinedNames → LicenseInfo
joined_info place None = Unlicensed
joined_info place (Some joined) = SpdxExpression joined.expression (info_at place (LicenseFiles joined.paths))

abbrev pub info_by : Option Coord → Coord → LicenseBasis → LicenseInfo
info_by location place (Clarified held) =
    SpdxExpression held.expression (record {
      file_id = held.file;
      offset = held.offset;
      whole = held.whole;
      source = clarified_source held.overlay;
    })
info_by location place (Field expression) = SpdxExpression expression (info_at place (field_source location))
info_by location place (Files seen joined) = joined_info place joined

abbrev pub joined_notes : Option JoinedNames → List (List ℕ)
joined_notes None = []
joined_notes (Some joined) = joined.notes

-- ---- the answer that has priority, as it is reported

abbrev pub source_view : LicenseExprSource → ExpressionSource
source_view (Metadata location) = metadata
source_view UserOverride = user_override
source_view OverlayOverride = overlay_override
source_view (LicenseFiles paths) = license_files paths

abbrev pub answer_view : LicenseInfo → List (List ℕ) → Option LicenseAnswer
answer_view Unlicensed notes = None
answer_view (SpdxExpression expression nfo) notes =
    Some (record { expression = expression; source = source_view nfo.source; notes = notes })

abbrev pub notes_of : Option LicenseAnswer → List (List ℕ)
notes_of answer = option_map_or (λ answer. answer.notes) answer []
