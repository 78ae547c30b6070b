-- What is kept of licence files, once their texts are let go.
use Rattle.std.specs.Prelude.{ℕ, Bool, List, [], map, Option, Result, Ok, Err, if◌then◌else◌, unwrap_or}
use Rattle.deny_text.specs.Hash.{xxh32_of}
use Rattle.deny_text.specs.Path.{components_of}
use Rattle.tree_core.specs.declared.file_reads.bad_read.BadRead.{BadRead}
use Rattle.tree_core.specs.declared.file_reads.bad_read.BadRead.TheVariants as bad
use Rattle.tree_core.specs.declared.reads.ReadRecord.{ReadRecord}
use Rattle.tree_core.specs.file_reads.Heard.{ReadResult, failed, absent, wrong_kind, not_utf8, text, entries}
use Rattle.gather_license.specs.declared.expression.kept.KeptFile.{KeptFile}
use Rattle.gather_license.specs.declared.expression.kept.KeptText.{KeptText}
use Rattle.gather_license.specs.expression.Scanned.{Scanner, name_taken}
use Rattle.gather_license.specs.files.KnownReads.{FolderReads}
use Rattle.gather_license.specs.files.View.{PackView, file_at, normal_heard, paths_read}

-- ---- one file

-- of a text in its normal form: its hash, its score, and the name that is taken for it, whatever score is enough
abbrev pub text_kept : Scanner → List ℕ → KeptText
text_kept scanner normal = record {
  hash = xxh32_of normal;
  score = (scanner.match_of normal).score;
  name = name_taken normal (scanner.match_of normal);
}

-- of what is read of a file, a text in its normal form, or why it is none; a file is never read as entries
abbrev pub kept_of : Scanner → ReadResult → Result KeptText BadRead
kept_of scanner (failed before after) = Err (bad.Failed before after)
kept_of scanner absent = Err bad.Absent
kept_of scanner wrong_kind = Err bad.WrongKind
kept_of scanner not_utf8 = Err bad.NotUtf8
kept_of scanner (text normal) = Ok (text_kept scanner normal)
kept_of scanner (entries listed) = Err bad.WrongKind

-- the file at a path, by what is read of it
abbrev pub file_kept : Scanner → FolderReads → List ℕ → KeptFile
file_kept scanner known_reads path =
    record { path = path; kept = kept_of scanner (normal_heard (known_reads.file (components_of path))) }

-- ---- all files

-- of reads those of licence files, in order
abbrev pub files_kept : Scanner → FolderReads → List ReadRecord → List KeptFile
files_kept scanner known_reads reads = map (file_kept scanner known_reads) (paths_read reads)

-- only where it is asked for
abbrev pub kept_where : Bool → List KeptFile → List KeptFile
kept_where keeps files = if keeps then files else []

abbrev pub kept_by : Scanner → FolderReads → List ReadRecord → List KeptFile
kept_by scanner known_reads reads = kept_where scanner.keeps (files_kept scanner known_reads reads)

-- ---- of a pack

-- the file at a path; one that is not among the files is not there
abbrev pub kept_at : Scanner → List (List ℕ × ReadResult) → List ℕ → Result KeptText BadRead
kept_at scanner files path = kept_of scanner (unwrap_or (file_at files path) absent)

abbrev pub file_kept_in : Scanner → List (List ℕ × ReadResult) → List ℕ → KeptFile
file_kept_in scanner files path = record { path = path; kept = kept_at scanner files path }

abbrev pub files_kept_in : Scanner → List (List ℕ × ReadResult) → List ReadRecord → List KeptFile
files_kept_in scanner files reads = map (file_kept_in scanner files) (paths_read reads)

abbrev pub kept_in : Scanner → PackView → List KeptFile
kept_in scanner pack = kept_where scanner.keeps (files_kept_in scanner pack.files pack.reads)
