-- Where a label points: a file, a place in its text, and the text that it cuts out.
use Rattle.std.specs.Prelude.{ℕ, ◌+◌, ◌<◌, ◌≤◌, List, [], length, All, slice_range, unwrap_or}
use Rattle.std.specs.Str.{IsCharBoundary}
use Rattle.diag_core.specs.declared.label.Label.{Label}
use Rattle.diag_core.specs.declared.diagnostic.Diagnostic.{Diagnostic}
use Rattle.diag_core.specs.declared.pack.Diag.{Diag}
use Rattle.diag_core.specs.File.{File, source_of_file, name_of_file}
use Rattle.diag_core.specs.Position.{line_of, column_of}

-- the text of the label's file; empty where there is no such file
abbrev pub source_under : List File → Label → List ℕ
source_under files label = unwrap_or (source_of_file files label.file_id) []

-- the name of the label's file; empty where there is no such file
abbrev pub file_under : List File → Label → List ℕ
file_under files label = unwrap_or (name_of_file files label.file_id) []

-- the label's file is there, and the label's range lies in its text, between characters
pub record LabelIsInside (files : List File) (label : Label) : Type 0 where
  pub live : label.file_id < length files
  pub ordered : label.range.start ≤ label.range.end
  pub starts : IsCharBoundary (source_under files label) label.range.start
  pub ends : IsCharBoundary (source_under files label) label.range.end

-- each label of the finding is inside its file
abbrev pub LabelsAreInside : List File → Diagnostic → Type 0
LabelsAreInside files diag = All (LabelIsInside files) diag.labels

-- each label of each finding is inside its file
abbrev pub AllLabelsAreInside : List File → List Diag → Type 0
AllLabelsAreInside files findings = All (λ finding. LabelsAreInside files finding.diag) findings

-- the line at which the label starts, from 1
abbrev pub line_number : List File → Label → ℕ
line_number files label = line_of (source_under files label) label.range.start + 1

-- the column at which the label starts, in characters, from 1
abbrev pub column_number : List File → Label → ℕ
column_number files label = column_of (source_under files label) label.range.start + 1

-- the text that the label cuts out
abbrev pub text_under : List File → Label → List ℕ
text_under files label = slice_range (source_under files label) label.range.start label.range.end
