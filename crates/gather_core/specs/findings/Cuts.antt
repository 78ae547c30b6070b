-- What the labels of a crate's findings cut out of their files, and where they are.
use Rattle.std.specs.Prelude.{◌≡◌, ℕ, ◌==◌, ◌<◌, ◌≤◌, List, [], ◌∷◌, ◌++◌, length, map, All, Option, Some, None}
use Rattle.std.specs.Prelude.{unwrap_or, if◌then◌else◌, ⊤}
use Rattle.std.specs.Bool.{OnTrue}
use Rattle.std.specs.List.{flat_map}
use Rattle.std.specs.Str.{IsCharBoundary}
use Rattle.spdx_terms.specs.declared.error.ParseError.{ParseError}
use Rattle.graph_core.specs.Krate.{CrateRecord}
use Rattle.diag_core.specs.declared.label.Coord.{Coord}
use Rattle.diag_core.specs.declared.label.Label.{Label}
use Rattle.diag_core.specs.declared.pack.Diag.{Diag}
use Rattle.diag_core.specs.File.{File, source_of_file}
use Rattle.deny_text.specs.Spans.{LiesBetween}
use Rattle.diag_core.specs.texts.Synthetic.{text_at, marked_of}
use Rattle.gather_license.specs.location.Location.{PointsAt}
use Rattle.gather_core.specs.findings.Findings.{UnclarifiedCrateView, ExpressionBasisView, by_field, by_files}
use Rattle.gather_core.specs.findings.Findings.{files_for, is_made, synthetic_of, marks_by, points_by}
use Rattle.gather_core.specs.findings.Pieces.{SeenFilesView, seen_pieces}
use Rattle.gather_core.specs.findings.Premises.{field_text_of}

-- the labels of findings, in order
abbrev pub labels_of : List Diag → List Label
labels_of findings = flat_map (λ (finding : Diag). finding.diag.labels) findings

-- the text that a label cuts out of its file
abbrev pub text_under : List File → Label → List ℕ
text_under files label = text_at (unwrap_or (source_of_file files label.file_id) []) label.range

-- of an empty field that has a location: the empty text
abbrev pub empty_texts : Option Coord → List (List ℕ)
empty_texts None = []
empty_texts (Some at) = [] ∷ []

-- each fault of the field; nothing where there is no field
abbrev pub field_texts : Option Coord → List ParseError → Option (List ℕ) → List (List ℕ)
field_texts location faults None = []
field_texts location faults (Some field) =
    if length field == 0 then empty_texts location else map (λ (fault : ParseError). text_at field fault.span) faults

-- what is marked of the files: a score, a name, or why there is no text or no listing
abbrev pub failed_texts : List ℕ → SeenFilesView → List (List ℕ)
failed_texts folder seen = marked_of (seen_pieces folder seen)

-- the crate's name, where there is no expression
abbrev pub name_texts : CrateRecord → Option (List ℕ) → List (List ℕ)
name_texts krate None = krate.name ∷ []
name_texts krate (Some expression) = []

abbrev pub texts_by : UnclarifiedCrateView → ExpressionBasisView → List (List ℕ)
texts_by case by_field = field_texts case.location case.faults case.krate.license
texts_by case (by_files seen joined) =
    field_texts case.location case.faults case.krate.license ++ failed_texts case.folder seen
    ++ name_texts case.krate joined

-- each label cuts its text out of the table as it is afterwards
abbrev pub CutOutBy : UnclarifiedCrateView → List File → ExpressionBasisView → Type 0
CutOutBy case files outcome =
    map (text_under (files_for case outcome files))
    (labels_of (points_by case (marks_by case outcome files) outcome).findings) ≡ texts_by case outcome

-- ---- where they are

-- the label's file is there, and its range lies in the file's text, between characters
pub record LabelLies (files : List File) (label : Label) : Type 0 where
  pub live : label.file_id < length files
  pub ordered : label.range.start ≤ label.range.end
  pub starts : IsCharBoundary (unwrap_or (source_of_file files label.file_id) []) label.range.start
  pub ends : IsCharBoundary (unwrap_or (source_of_file files label.file_id) []) label.range.end

-- each label of each finding, in the table as it is afterwards
abbrev pub LabelsLieBy : UnclarifiedCrateView → List File → ExpressionBasisView → Type 0
LabelsLieBy case files outcome =
    All (LabelLies (files_for case outcome files))
    (labels_of (points_by case (marks_by case outcome files) outcome).findings)

-- the marks of a synthetic manifest, where it is made, are between characters of its text
abbrev pub MarksLie : UnclarifiedCrateView → ExpressionBasisView → Type 0
MarksLie case outcome =
    OnTrue (is_made case.location outcome)
    (All (LiesBetween (synthetic_of case outcome).text) (synthetic_of case outcome).spans)

-- ---- where the expression is

-- the text of the expression, where there is one: the field, or the joined names
abbrev pub expression_text : UnclarifiedCrateView → ExpressionBasisView → Option (List ℕ)
expression_text case by_field = Some (field_text_of case)
expression_text case (by_files seen joined) = joined

-- a text that is there has a place, which cuts it out
abbrev pub StandsAtCoord : List File → Option Coord → Option (List ℕ) → Type 0
StandsAtCoord files None None = ⊤
StandsAtCoord files None (Some text) = ⊥
StandsAtCoord files (Some at) None = ⊥
StandsAtCoord files (Some at) (Some text) = PointsAt files at text

abbrev pub ExpressionStandsBy : UnclarifiedCrateView → List File → ExpressionBasisView → Type 0
ExpressionStandsBy case files outcome =
    StandsAtCoord (files_for case outcome files) (points_by case (marks_by case outcome files) outcome).expression
    (expression_text case outcome)
