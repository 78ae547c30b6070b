-- One crate's turn: what it asks of the tree and of the file table, what is reported of it, and what it leaves.
use Rattle.std.specs.Prelude.{◌≡◌, ℕ, Bool, ◌&&◌, List, [], ◌++◌, map, Option, Some, None, is_none, is_some, option_map}
use Rattle.std.specs.Prelude.{unwrap_or, if◌then◌else◌}
use Rattle.std.specs.List.{All}
use Rattle.std.specs.Option.{option_map_or, option_to_list}
use Rattle.tree_core.specs.declared.reads.ReadRecord.{ReadRecord}
use Rattle.spdx_terms.specs.declared.error.ParseError.{ParseError}
use Rattle.graph_core.specs.Krate.{CrateRecord}
use Rattle.tree_core.specs.file_reads.Heard.{ReadResult}
use Rattle.gather_license.specs.files.KnownReads.{FolderReads}
use Rattle.gather_license.specs.files.Steps.{file_record}
use Rattle.gather_license.specs.files.View.{paths_read}
use Rattle.gather_license.specs.declared.expression.kept.KeptFile.{KeptFile}
use Rattle.gather_license.specs.expression.Kept.{kept_by}
use Rattle.gather_license.specs.expression.Scanned.{Scanner}
use Rattle.diag_core.specs.declared.label.Coord.{Coord}
use Rattle.diag_core.specs.declared.pack.Diag.{Diag}
use Rattle.diag_core.specs.File.{File}
use Rattle.gather_license.specs.declared.settling.FilesSeen.{FilesSeen}
use Rattle.gather_license.specs.declared.settling.FilesSeen.TheVariants.{Unlisted, Listed}
use Rattle.gather_license.specs.declared.settling.JoinedNames.{JoinedNames}
use Rattle.gather_license.specs.declared.settling.LicenseBasis.{LicenseBasis}
use Rattle.gather_license.specs.declared.settling.LicenseBasis.TheVariants.{Clarified, Field, Files}
use Rattle.gather_license.specs.Clarification.{ClarificationView}
use Rattle.gather_license.specs.Priority.{answer_in, folder_of, holding_clarification, is_nothing, records_of, basis_of}
use Rattle.gather_license.specs.Settled.{missing_of}
use Rattle.gather_license.specs.declared.location.location.LocatedField.{LocatedField}
use Rattle.gather_license.specs.location.Location.{files_after, located_of}
use Rattle.gather_core.specs.declared.findings.outcome.PlacedFindings.{PlacedFindings}
use Rattle.gather_core.specs.findings.Cuts.{LabelLies, labels_of, text_under, texts_by}
use Rattle.gather_core.specs.findings.Faults.{field_faults}
use Rattle.gather_core.specs.findings.Findings.{UnclarifiedCrateView, ExpressionBasisView, by_field, by_files}
use Rattle.gather_core.specs.findings.Findings.{files_with, missing_file, points_of}
use Rattle.gather_core.specs.findings.Pieces.{SeenFilesView, unlisted, listed}
use Rattle.gather_core.specs.declared.findings.license.LicenseInfo.{LicenseInfo}
use Rattle.gather_core.specs.declared.summary.KrateLicense.{KrateLicense}
use Rattle.gather_core.specs.Exceptions.{ExceptionRules, counted_of, further_paths, looked_for}
use Rattle.gather_core.specs.Told.{info_by, notes_of, no_place}

-- What texts are identified by; the clarifications that are for the crate; the policy's exceptions; the crate; what is
-- read of its folder and its files, and of its manifest; and the file table as the turn begins.
pub record TurnInput : Type 0 where
  pub scanner : Scanner
  pub clarifications : List ClarificationView
  pub exceptions : ExceptionRules
  pub krate : CrateRecord
  pub known_reads : FolderReads
  pub manifest : ReadResult
  pub files : List File

abbrev pub basis_in : TurnInput → LicenseBasis
basis_in turn = basis_of turn.scanner turn.clarifications turn.krate turn.known_reads

-- the text of the field; empty where there is none
abbrev pub field_text : CrateRecord → List ℕ
field_text krate = unwrap_or krate.license []

-- ---- the manifest

-- it is asked for where no clarification holds and the field is not null; an empty field counts
abbrev pub asks_manifest : List ClarificationView → CrateRecord → FolderReads → Bool
asks_manifest clarifications krate known_reads =
    is_none (holding_clarification known_reads clarifications) && is_some krate.license

abbrev pub not_asked : LocatedField
not_asked = record { location = None; read = None }

-- where a manifest is asked for, and where it is not
abbrev pub located_where : Bool → CrateRecord → List File → ReadResult → LocatedField
located_where asks krate files manifest =
    if asks then located_of krate.manifest_path (field_text krate) files manifest else not_asked

abbrev pub files_where : Bool → CrateRecord → List File → ReadResult → List File
files_where asks krate files manifest =
    if asks then files_after krate.manifest_path (field_text krate) files manifest else files

abbrev pub located_in : TurnInput → LocatedField
located_in turn =
    located_where (asks_manifest turn.clarifications turn.krate turn.known_reads) turn.krate turn.files turn.manifest

-- the table with the manifest, where the field's location counts
abbrev pub files_located : TurnInput → List File
files_located turn =
    files_where (asks_manifest turn.clarifications turn.krate turn.known_reads) turn.krate turn.files turn.manifest

-- ---- the reads

-- The record of the manifest is before the listing of a third step, and behind what clarifications let read.
abbrev pub in_order : Bool → Option ReadRecord → List ReadRecord → List ReadRecord
in_order manifest_first manifest reads =
    if manifest_first then option_to_list manifest ++ reads else reads ++ option_to_list manifest

-- what is read before the files of exceptions
abbrev pub records_before : TurnInput → List ReadRecord
records_before turn =
    in_order (is_nothing turn.clarifications) (located_in turn).read
    (records_of turn.scanner turn.clarifications turn.krate turn.known_reads)

-- the files of exceptions that are looked at and were not read before
abbrev pub paths_behind : TurnInput → List (List ℕ)
paths_behind turn =
    further_paths (paths_read (records_before turn)) (looked_for turn.exceptions turn.krate turn.known_reads)

-- all reads of the turn; no path is read twice as a licence file
abbrev pub records_in : TurnInput → List ReadRecord
records_in turn = records_before turn ++ map (file_record turn.known_reads) (paths_behind turn)

-- what is kept of the licence files among them
abbrev pub kept_in : TurnInput → List KeptFile
kept_in turn = kept_by turn.scanner turn.known_reads (records_in turn)

-- ---- what is found

abbrev pub seen_as : FilesSeen → SeenFilesView
seen_as (Unlisted error) = unlisted error
seen_as (Listed files) = listed files

abbrev pub joined_expression_text : Option JoinedNames → Option (List ℕ)
joined_expression_text joined = option_map (λ names. names.expression.text) joined

abbrev pub faults_in : Scanner → CrateRecord → List ParseError
faults_in scanner krate = option_map_or (field_faults scanner.lists) krate.license []

-- what settles the licence, as findings take it; none where that is a clarification
abbrev pub outcome_in : LicenseBasis → Option ExpressionBasisView
outcome_in (Clarified held) = None
outcome_in (Field expression) = Some by_field
outcome_in (Files seen joined) = Some (by_files (seen_as seen) (joined_expression_text joined))

abbrev pub case_with : CrateRecord → List ParseError → Option Coord → ExpressionBasisView → UnclarifiedCrateView
case_with krate faults location outcome = record {
  krate = krate;
  folder = folder_of krate;
  location = location;
  faults = faults;
  outcome = outcome;
}

abbrev pub no_points : PlacedFindings
no_points = record { expression = None; findings = [] }

-- the text of the expression that findings point at, where there is one: none of a clarification
abbrev pub text_settled : CrateRecord → LicenseBasis → Option (List ℕ)
text_settled krate (Clarified held) = None
text_settled krate (Field expression) = Some (field_text krate)
text_settled krate (Files seen joined) = joined_expression_text joined

-- where the expression is, what is found, and the table afterwards: nothing of a clarification
abbrev pub points_for : CrateRecord → List ParseError → Option Coord → List File → LicenseBasis → PlacedFindings
points_for krate faults location files by =
    option_map_or (λ outcome. points_of (case_with krate faults location outcome) files) (outcome_in by) no_points

abbrev pub files_left : CrateRecord → List ParseError → Option Coord → List File → LicenseBasis → List File
files_left krate faults location files by =
    option_map_or (λ outcome. files_with (case_with krate faults location outcome) files) (outcome_in by) files

-- where the clarifications' files write what is not there
abbrev pub missing_findings : List Coord → List Diag
missing_findings missing = map missing_file missing

abbrev pub points_in : TurnInput → PlacedFindings
points_in turn =
    points_for turn.krate (faults_in turn.scanner turn.krate) (located_in turn).location (files_located turn)
    (basis_in turn)

-- The findings of a crate: the files of clarifications that are not there; and where none of them holds those of its
-- field, of its files, and that there is no expression.
abbrev pub findings_in : TurnInput → List Diag
findings_in turn =
    missing_findings (missing_of turn.known_reads turn.clarifications) ++ (points_in turn).findings

-- ---- what is reported, and what is left

abbrev pub info_in : TurnInput → LicenseInfo
info_in turn =
    info_by (located_in turn).location (unwrap_or (points_in turn).expression no_place) (basis_in turn)

abbrev pub notes_in : TurnInput → List (List ℕ)
notes_in turn = notes_of (answer_in (basis_in turn))

-- the table behind a crate: with its manifest where the field's location counts, and then its synthetic manifest where
-- something points into it
abbrev pub files_behind : TurnInput → List File
files_behind turn =
    files_left turn.krate (faults_in turn.scanner turn.krate) (located_in turn).location (files_located turn)
    (basis_in turn)

-- ---- what the labels cut out

-- what each label says: a fault of the field, the empty field, what failed, the name
abbrev pub label_texts_for : CrateRecord → List ParseError → Option Coord → LicenseBasis → List (List ℕ)
label_texts_for krate faults location by =
    option_map_or (λ outcome. texts_by (case_with krate faults location outcome) outcome) (outcome_in by) []

abbrev pub label_texts : TurnInput → List (List ℕ)
label_texts turn =
    label_texts_for turn.krate (faults_in turn.scanner turn.krate) (located_in turn).location (basis_in turn)

-- each label of what is found lies in its file, between characters, and cuts that out
pub record IsCutOut (files : List File) (turn : TurnInput) : Type 0 where
  pub lie : All (LabelLies files) (labels_of (points_in turn).findings)
  pub cuts : map (text_under files) (labels_of (points_in turn).findings) ≡ label_texts turn

-- what is reported of a crate is what its turn says, and so is the table that it leaves
pub record IsTurn (turn : TurnInput) (license : KrateLicense) (files : List File) : Type 0 where
  pub info : license.lic_info ≡ info_in turn
  pub noted : license.notes ≡ notes_in turn
  pub found : license.diags ≡ findings_in turn
  pub counted : license.exceptions ≡ counted_of turn.exceptions turn.krate turn.known_reads
  pub read : license.reads ≡ records_in turn
  pub kept : license.kept ≡ kept_in turn
  pub table : files ≡ files_behind turn
