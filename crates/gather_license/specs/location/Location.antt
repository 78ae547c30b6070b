-- Where the licence field of a crate is in its manifest, and which manifests join the file table.
use Rattle.std.specs.Prelude.{◌≡◌, ℕ, ◌≤◌, List, [], ◌∷◌, ◌++◌, length, true, Option, Some, None, if◌then◌else◌}
use Rattle.std.specs.Option.{option_and_then, option_map}
use Rattle.std.specs.Str.{IsCharBoundary, bytes_eq}
use Rattle.deny_text.specs.declared.span.Span.{Span}
use Rattle.tree_core.specs.declared.reads.ReadKind.TheVariants.{Manifest}
use Rattle.tree_core.specs.declared.reads.ReadRecord.{ReadRecord}
use Rattle.tree_core.specs.file_reads.Heard.{ReadResult, failed, absent, wrong_kind, not_utf8, text, entries}
use Rattle.tree_core.specs.file_reads.Heard.{read_record_of}
use Rattle.diag_core.specs.declared.label.Coord.{Coord}
use Rattle.diag_core.specs.File.{File, file_id_at, source_of_file}
use Rattle.diag_core.specs.texts.SpanSearch.{license_span_of}
use Rattle.diag_core.specs.texts.Synthetic.{text_at}
use Rattle.gather_license.specs.declared.location.location.LocatedField.{LocatedField}

-- ---- in a text

-- a place counts where the text there equals the field
abbrev pub counted_in : List ℕ → List ℕ → Span → Option Span
counted_in field source span = if bytes_eq (text_at source span) field then Some span else None

-- the place of a field in the text of a manifest: that of the first value that the search finds, where it counts
abbrev pub span_in : List ℕ → List ℕ → Option Span
span_in field source = option_and_then (counted_in field source) (license_span_of source)

-- in what is read of a manifest: a text alone has one
abbrev pub span_heard : List ℕ → ReadResult → Option Span
span_heard field (failed before after) = None
span_heard field absent = None
span_heard field wrong_kind = None
span_heard field not_utf8 = None
span_heard field (text bytes) = span_in field bytes
span_heard field (entries listed) = None

-- ---- by the file table, and by what is read

abbrev pub coord_at : ℕ → Span → Coord
coord_at id span = record { file = id; span = span }

-- in a file of the table: nothing is read
abbrev pub field_in_table : List ℕ → List File → ℕ → LocatedField
field_in_table field files id = record {
  location = option_map (coord_at id) (option_and_then (span_in field) (source_of_file files id));
  read = None;
}

-- the record of the read of a manifest
abbrev pub manifest_record : List ℕ → ReadResult → ReadRecord
manifest_record path manifest = read_record_of Manifest path manifest

-- in what is read of the manifest, which is then the next file of the table
abbrev pub in_heard : List ℕ → List ℕ → List File → ReadResult → LocatedField
in_heard path field files manifest = record {
  location = option_map (coord_at (length files)) (span_heard field manifest);
  read = Some (manifest_record path manifest);
}

abbrev pub located_by : List ℕ → List ℕ → List File → ReadResult → Option ℕ → LocatedField
located_by path field files manifest None = in_heard path field files manifest
located_by path field files manifest (Some id) = field_in_table field files id

-- The location of a field: in the file of the table that has the manifest's path by parts, also where that is the
-- policy, else in what is read of the manifest.
abbrev pub located_of : List ℕ → List ℕ → List File → ReadResult → LocatedField
located_of path field files manifest = located_by path field files manifest (file_id_at files path)

-- ---- the table afterwards

abbrev pub manifest_file : List ℕ → List ℕ → File
manifest_file path bytes = record { name = path; source = bytes; has_path = true }

-- a manifest joins the table exactly where the field's location counts
abbrev pub joined_by : List ℕ → List File → List ℕ → Option Span → List File
joined_by path files bytes None = files
joined_by path files bytes (Some span) = files ++ manifest_file path bytes ∷ []

abbrev pub files_with_manifest : List ℕ → List ℕ → List File → ReadResult → List File
files_with_manifest path field files (failed before after) = files
files_with_manifest path field files absent = files
files_with_manifest path field files wrong_kind = files
files_with_manifest path field files not_utf8 = files
files_with_manifest path field files (text bytes) = joined_by path files bytes (span_in field bytes)
files_with_manifest path field files (entries listed) = files

abbrev pub files_by : List ℕ → List ℕ → List File → ReadResult → Option ℕ → List File
files_by path field files manifest None = files_with_manifest path field files manifest
files_by path field files manifest (Some id) = files

abbrev pub files_after : List ℕ → List ℕ → List File → ReadResult → List File
files_after path field files manifest = files_by path field files manifest (file_id_at files path)

-- ---- what locating answers

-- the field was located, and the table is what it is then, by what is read of the manifest
pub record IsLocated (path field : List ℕ) (old : List File) (manifest : ReadResult) (located : LocatedField)
    (new : List File) : Type 0 where
  pub located_is : located ≡ located_of path field old manifest
  pub files_are : new ≡ files_after path field old manifest

-- a place of a text lies in it, between characters, and cuts out these bytes
pub record CutsOut (source : List ℕ) (span : Span) (bytes : List ℕ) : Type 0 where
  pub ordered : span.start ≤ span.end
  pub starts : IsCharBoundary source span.start
  pub ends : IsCharBoundary source span.end
  pub cut_out : text_at source span ≡ bytes

-- a place in a file of the table cuts these bytes out of its text
pub record PointsAt (files : List File) (at : Coord) (bytes : List ℕ) : Type 0 where
  pub source : List ℕ
  pub is_source : source_of_file files at.file ≡ Some source
  pub cuts : CutsOut source at.span bytes
