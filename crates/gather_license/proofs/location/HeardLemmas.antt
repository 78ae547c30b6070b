-- What is read of a manifest, and what the table holds of it then.
use Rattle.std.proofs.Common.{◌≡◌, ℕ, List, [], ◌∷◌, ◌++◌, length, Some, None, refl, ap, ◌∙◌, slice_get}
use Rattle.std.specs.Option.{option_map}
use Rattle.tree_core.specs.declared.file_reads.bad_read.BadRead.{BadRead}
use Rattle.tree_core.specs.declared.file_reads.bad_read.BadRead.TheVariants as bad
use Rattle.tree_core.specs.file_reads.Heard.{ReadResult}
use Rattle.tree_core.specs.file_reads.Views.{heard_bad}
use Rattle.diag_core.specs.File.{File, file_id_at, source_of_file}
use Rattle.gather_license.specs.declared.location.location.LocatedField.{LocatedField}
use Rattle.gather_license.specs.location.Location.{IsLocated, files_by, files_with_manifest, in_heard, field_in_table, located_by, manifest_file, span_heard}

-- ---- what is no text

pub no_span_in_bad : (field : List ℕ) (error : BadRead) → span_heard field (heard_bad error) ≡ None
no_span_in_bad field bad.Absent = refl
no_span_in_bad field bad.WrongKind = refl
no_span_in_bad field bad.NotUtf8 = refl
no_span_in_bad field (bad.Failed before after) = refl

pub bad_joins_nothing : (path field : List ℕ) (files : List File) (error : BadRead) → files_with_manifest path field files (heard_bad error) ≡ files
bad_joins_nothing path field files bad.Absent = refl
bad_joins_nothing path field files bad.WrongKind = refl
bad_joins_nothing path field files bad.NotUtf8 = refl
bad_joins_nothing path field files (bad.Failed before after) = refl

-- ---- the last file of a table

last_of : (files : List File) (file : File) → slice_get (files ++ file ∷ []) (length files) ≡ Some file
last_of [] file = refl
last_of (first ∷ files) file = last_of files file

pub source_joined : (files : List File) (path bytes : List ℕ) → source_of_file (files ++ manifest_file path bytes ∷ []) (length files) ≡ Some bytes
source_joined files path bytes = ap (option_map (λ (file : File). file.source)) (last_of files (manifest_file path bytes))

-- ---- by the table, and by the read

-- a file of the table has the path
pub located_there : (path field : List ℕ) (files : List File) (manifest : ReadResult) (id : ℕ) (located : LocatedField) → Some id ≡ file_id_at files path
    → located ≡ field_in_table field files id → IsLocated path field files manifest located files
located_there path field files manifest id located found is = record {
  located_is = is ∙ ap (located_by path field files manifest) found;
  files_are = ap (files_by path field files manifest) found;
}

-- none has it
pub located_heard : (path field : List ℕ) (files : List File) (told : ReadResult) (located : LocatedField) (new : List File) → None ≡ file_id_at files path
    → located ≡ in_heard path field files told → new ≡ files_with_manifest path field files told → IsLocated path field files told located new
located_heard path field files told located new none is are = record {
  located_is = is ∙ ap (located_by path field files told) none;
  files_are = are ∙ ap (files_by path field files told) none;
}
