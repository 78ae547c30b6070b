-- A pack, as contracts see it.
use Rattle.std.specs.Prelude.{◌≡◌, ℕ, List, map, Option, Some, None, Result, if◌then◌else◌}
use Rattle.std.specs.BTreeMap.{is_at}
use Rattle.std.specs.List.{filter_map}
use Rattle.std.specs.Map.{lookup}
use Rattle.deny_text.specs.Normal.{normal_of}
use Rattle.deny_text.specs.Path.{path_order}
use Rattle.tree_core.specs.declared.reads.ReadKind.TheVariants.{LicenseFile}
use Rattle.tree_core.specs.declared.reads.ReadRecord.{ReadRecord}
use Rattle.tree_core.specs.declared.file_reads.bad_read.BadRead.{BadRead}
use Rattle.tree_core.specs.declared.file_reads.bad_read.BadRead.TheVariants as bad
use Rattle.tree_core.specs.file_reads.Heard.{ReadResult, failed, absent, wrong_kind, not_utf8, text, entries, is_kind}
use Rattle.tree_core.specs.file_reads.Views.{heard_file}
use Rattle.gather_license.specs.files.Pack.{in_path_order}

-- A crate's folder; what was read of its listing; the files in path order, each with what was read of it, a text in its
-- normal form; and the records of the reads.
pub record PackView : Type 0 where
  pub folder : List ℕ
  pub listing : ReadResult
  pub files : List (List ℕ × ReadResult)
  pub reads : List ReadRecord

-- a text in its normal form; anything else as it was read
abbrev pub normal_heard : ReadResult → ReadResult
normal_heard (failed before after) = failed before after
normal_heard absent = absent
normal_heard wrong_kind = wrong_kind
normal_heard not_utf8 = not_utf8
normal_heard (text bytes) = text (normal_of bytes)
normal_heard (entries listed) = entries listed

-- files as they are kept
abbrev pub kept_files : List (List ℕ × Result (List ℕ) BadRead) → List (List ℕ × ReadResult)
kept_files held = map (λ file. (file.0, heard_file file.1)) held

abbrev pub paths_of : List (List ℕ × ReadResult) → List (List ℕ)
paths_of files = map (λ file. file.0) files

-- what was read of the file at a path
abbrev pub file_at : List (List ℕ × ReadResult) → List ℕ → Option ReadResult
file_at files path = lookup (is_at (path_order path)) files

-- the licence files that were read, in order
abbrev pub path_read : ReadRecord → Option (List ℕ)
path_read read = if is_kind LicenseFile read.kind then Some read.path else None

abbrev pub paths_read : List ReadRecord → List (List ℕ)
paths_read reads = filter_map path_read reads

-- why a listing is not read as entries; a listing is never read as a text
abbrev pub unlisted_of : ReadResult → Option BadRead
unlisted_of (failed before after) = Some (bad.Failed before after)
unlisted_of absent = Some bad.Absent
unlisted_of wrong_kind = Some bad.WrongKind
unlisted_of not_utf8 = Some bad.NotUtf8
unlisted_of (text bytes) = Some bad.WrongKind
unlisted_of (entries listed) = None

-- the files are those that were read, in path order
pub record KeepsReadFiles (pack : PackView) : Type 0 where
  pub paths : paths_of pack.files ≡ in_path_order (paths_read pack.reads)
