-- What is found on the way to a crate's licence, and the places that it points at.
use Rattle.std.specs.Prelude.{ℕ, ◌+◌, ◌^◌, ◌<◌, ◌==◌, Bool, true, false, List, [], ◌∷◌, ◌++◌, length, map, drop, codes}
use Rattle.std.specs.Prelude.{slice_get, Option, Some, None, is_none, if◌then◌else◌}
use Rattle.std.specs.List.{filter_map, zip}
use Rattle.std.specs.Option.{option_map, option_map_or, option_to_list}
use Rattle.deny_text.specs.declared.span.Span.{Span}
use Rattle.spdx_terms.specs.declared.error.ParseError.{ParseError}
use Rattle.spdx_terms.specs.Reasons.{reason_text}
use Rattle.graph_core.specs.Krate.{CrateRecord, title_of}
use Rattle.diag_core.specs.declared.code.DiagnosticCode.TheVariants.{License}
use Rattle.diag_core.specs.declared.label.Coord.{Coord}
use Rattle.diag_core.specs.declared.label.Label.{Label}
use Rattle.diag_core.specs.declared.label.LabelStyle.TheVariants.{Primary, Secondary}
use Rattle.diag_core.specs.declared.licenses.Code.{Code}
use Rattle.diag_core.specs.declared.licenses.Code.TheVariants.{Unlicensed, MissingClarificationFile}
use Rattle.diag_core.specs.declared.licenses.Code.TheVariants.{ParseError as parse_error, EmptyLicenseField}
use Rattle.diag_core.specs.declared.licenses.Code.TheVariants.{NoLicenseField, GatherFailure}
use Rattle.diag_core.specs.declared.pack.Diag.{Diag}
use Rattle.diag_core.specs.declared.severity.Severity.TheVariants.{Warning}
use Rattle.diag_core.specs.File.{File}
use Rattle.diag_core.specs.Code.{code_name}
use Rattle.diag_core.specs.Label.{heap, label_at}
use Rattle.diag_core.specs.texts.Synthetic.{PlacedText}
use Rattle.gather_license.specs.declared.expression.files.FileResult.{FileResult}
use Rattle.gather_license.specs.declared.expression.files.FileResult.TheVariants.{Bad, Unnamed, Low, Unknown, Joined}
use Rattle.gather_license.specs.declared.expression.files.ScannedFile.{ScannedFile}
use Rattle.gather_core.specs.declared.findings.outcome.PlacedFindings.{PlacedFindings}
use Rattle.gather_core.specs.findings.Pieces.{SeenFilesView, unlisted, listed, crate_kept, synthetic_file}

-- ---- findings

-- a warning of the licence check, with what it says and the places that it points at
abbrev pub warning : Code → List ℕ → List Label → Diag
warning code message labels = record {
  diag = record {
    severity = Warning;
    code = Some (code_name (License code));
    message = message;
    labels = labels;
    notes = [];
    alloc = heap;
  };
  code = Some (License code);
  graph_nodes = [];
  with_features = false;
}

abbrev pub label_of : Coord → List ℕ → Label
label_of at message = label_at Secondary at.file at.span message

-- a file of a clarification is not there; its path is in the clarification's file
abbrev pub missing_file : Coord → Diag
missing_file path =
    warning MissingClarificationFile (codes "unable to locate specified license file") (label_of path [] ∷ [])

-- the place of a fault in a field that is at a place
abbrev pub fault_place : Coord → Span → Coord
fault_place field fault = record {
  file = field.file;
  span = record { start = field.span.start + fault.start; end = field.span.start + fault.end };
}

-- it is a place of 64 bits
abbrev pub FaultFits : Coord → ParseError → Type 0
FaultFits field fault = (field.span.start + fault.span.start < 2 ^ 64) × (field.span.start + fault.span.end < 2 ^ 64)

abbrev pub field_fault : Coord → ParseError → Diag
field_fault field fault =
    warning parse_error (codes "error parsing SPDX license expression")
    (label_of (fault_place field fault.span) (reason_text fault.reason) ∷ [])

abbrev pub empty_field : Coord → Diag
empty_field at =
    warning EmptyLicenseField (codes "license field was present but empty") (label_of at (codes "empty field") ∷ [])

abbrev pub no_field : CrateRecord → Diag
no_field krate = warning NoLicenseField
    (codes "license expression was not specified in manifest for crate '" ++ title_of krate ++ codes "'") []

-- one failure: its words, and where the synthetic manifest writes it
abbrev pub failure : ℕ → List ℕ × Span → Diag
failure file one = warning GatherFailure [] (label_of (record { file = file; span = one.1 }) one.0 ∷ [])

abbrev pub unlicensed_finding : Coord → Diag
unlicensed_finding name =
    warning Unlicensed (codes "a valid license expression could not be retrieved for the crate")
    (label_at Primary name.file name.span [] ∷ [])

-- ---- what failed

-- why a file gives no name
abbrev pub failure_of : FileResult → Option (List ℕ)
failure_of (Bad error) = Some (codes "unable to read license file")
failure_of (Unnamed hash score) = Some (codes "low confidence in the license text")
failure_of (Low hash score name) = Some (codes "low confidence in the license text")
failure_of (Unknown hash score name) = Some (codes "unknown SPDX identifier")
failure_of (Joined hash name deprecated) = None

-- in path order
abbrev pub failures_of : SeenFilesView → List (List ℕ)
failures_of (unlisted error) = codes "unable to gather license files" ∷ []
failures_of (listed scanned) = filter_map (λ (file : ScannedFile). failure_of file.scanned) scanned

-- ---- the places of a synthetic manifest

-- its number, and the places of what is marked in it, in order: the name, the field, the expression of joined names
-- where there is one, and what failed
pub record MarksView : Type 0 where
  pub file : ℕ
  pub spans : List Span

abbrev pub mark_coord : MarksView → ℕ → Option Coord
mark_coord marks place = option_map (λ span. record { file = marks.file; span = span }) (slice_get marks.spans place)

abbrev pub name_mark : MarksView → Option Coord
name_mark marks = mark_coord marks 0

abbrev pub field_mark : MarksView → Option Coord
field_mark marks = mark_coord marks 1

abbrev pub joined_mark : MarksView → Option Coord
joined_mark marks = mark_coord marks 2

-- the number of the first mark of what failed
abbrev pub first_failure : Option (List ℕ) → ℕ
first_failure None = 2
first_failure (Some expression) = 3

abbrev pub failure_marks : Option (List ℕ) → MarksView → List Span
failure_marks joined marks = drop (first_failure joined) marks.spans

-- ---- all findings

-- where the field is: at its location, or else in the synthetic manifest
abbrev pub field_place : Option Coord → Option Coord → Option Coord
field_place (Some location) synthetic = Some location
field_place None synthetic = synthetic

abbrev pub empty_findings : CrateRecord → Option Coord → List Diag
empty_findings krate None = no_field krate ∷ []
empty_findings krate (Some location) = empty_field location ∷ []

-- each fault of a field that is at a place
abbrev pub fault_findings : Option Coord → List ParseError → List Diag
fault_findings place faults = option_map_or (λ at. map (field_fault at) faults) place []

-- by the field: its faults, or that it is empty, or missing
abbrev pub field_findings : CrateRecord → Option Coord → List ParseError → Option Coord → Option (List ℕ) → List Diag
field_findings krate location faults place None = no_field krate ∷ []
field_findings krate location faults place (Some field) =
    if length field == 0 then empty_findings krate location else fault_findings place faults

-- one of each failure, also where another file gives a name
abbrev pub failure_findings : SeenFilesView → Option (List ℕ) → MarksView → List Diag
failure_findings seen joined marks = map (failure marks.file) (zip (failures_of seen) (failure_marks joined marks))

-- there is no expression
abbrev pub unlicensed_findings : Option (List ℕ) → MarksView → List Diag
unlicensed_findings None marks = option_to_list (option_map unlicensed_finding (name_mark marks))
unlicensed_findings (Some expression) marks = []

-- ---- a crate whose licence no clarification settles

-- What settles it: its field gives the expression; or its files are looked at, and the expression of joined names is
-- there where some name is joined.
pub data ExpressionBasisView : Type 0 where
  by_field : ExpressionBasisView
  by_files : SeenFilesView → Option (List ℕ) → ExpressionBasisView

-- the crate, the folder of its manifest, the location of its field where that counts, the field's faults, and what
-- settles it
pub record UnclarifiedCrateView : Type 0 where
  pub krate : CrateRecord
  pub folder : List ℕ
  pub location : Option Coord
  pub faults : List ParseError
  pub outcome : ExpressionBasisView

abbrev pub field_points : UnclarifiedCrateView → MarksView → List Diag
field_points case marks =
    field_findings case.krate case.location case.faults (field_place case.location (field_mark marks))
    case.krate.license

-- where the expression of joined names is, where there is one
abbrev pub joined_place : Option (List ℕ) → MarksView → Option Coord
joined_place None marks = None
joined_place (Some text) marks = joined_mark marks

-- where the expression's text is, and the findings in order
abbrev pub points_by : UnclarifiedCrateView → MarksView → ExpressionBasisView → PlacedFindings
points_by case marks by_field =
    record { expression = field_place case.location (field_mark marks); findings = field_points case marks }
points_by case marks (by_files seen joined) = record {
  expression = joined_place joined marks;
  findings = field_points case marks ++ failure_findings seen joined marks ++ unlicensed_findings joined marks;
}

-- ---- the synthetic manifest

-- it is made where something points into it: where the files are looked at, and where the field that gives the
-- expression has no location
abbrev pub is_made : Option Coord → ExpressionBasisView → Bool
is_made location by_field = is_none location
is_made location (by_files seen joined) = true

abbrev pub synthetic_of : UnclarifiedCrateView → ExpressionBasisView → PlacedText
synthetic_of case by_field = crate_kept case.krate case.folder None (listed [])
synthetic_of case (by_files seen joined) = crate_kept case.krate case.folder joined seen

-- it is the next file of the table
abbrev pub marks_by : UnclarifiedCrateView → ExpressionBasisView → List File → MarksView
marks_by case outcome files = record { file = length files; spans = (synthetic_of case outcome).spans }

abbrev pub files_with_synthetic : UnclarifiedCrateView → ExpressionBasisView → List File → List File
files_with_synthetic case outcome files = files ++ synthetic_file case.krate (synthetic_of case outcome) ∷ []

-- where the expression is, and what is found of the crate
abbrev pub points_of : UnclarifiedCrateView → List File → PlacedFindings
points_of case files = points_by case (marks_by case case.outcome files) case.outcome

-- the table afterwards
abbrev pub files_for : UnclarifiedCrateView → ExpressionBasisView → List File → List File
files_for case outcome files = if is_made case.location outcome then files_with_synthetic case outcome files else files

abbrev pub files_with : UnclarifiedCrateView → List File → List File
files_with case files = files_for case case.outcome files
