-- The licence texts that a crate comes with.
use Rattle.std.specs.Prelude.{◌≡◌, ℕ, List, [], Option, Some, None}
use Rattle.std.specs.List.{filter_map}
use Rattle.tree_core.specs.Call.{Call}
use Rattle.tree_core.specs.Content.{Content}
use Rattle.tree_core.specs.declared.reads.ReadRecord.{ReadRecord}
use Rattle.tree_core.specs.file_reads.Heard.{ReadResult, failed, absent, wrong_kind, not_utf8, text, entries}
use Rattle.tree_core.specs.file_reads.Read.{MadeReads, AnsweredRead, records_of_reads}
use Rattle.graph_core.specs.Krate.{CrateRecord}
use Rattle.gather_license.specs.files.KnownReads.{FolderReads, known_reads_by}
use Rattle.gather_license.specs.files.Pack.{pack_paths}
use Rattle.gather_license.specs.Priority.{files_heard, folder_of, records_with}
use Rattle.gather_license.specs.declared.texts.OwnText.{OwnText}
use Rattle.gather_license.specs.declared.texts.OwnTexts.{OwnTexts}

-- a file that is read as a text, with that in its normal form
abbrev pub text_by : List ℕ → ReadResult → Option OwnText
text_by path (failed before after) = None
text_by path absent = None
text_by path wrong_kind = None
text_by path not_utf8 = None
text_by path (text normal) = Some (record { path = path; text = normal })
text_by path (entries listed) = None

abbrev pub text_in : List ℕ × ReadResult → Option OwnText
text_in file = text_by file.0 file.1

-- Of the licence files that are found, and the `license_file`, those that are texts, in path order. A clarification of
-- a policy adds none.
abbrev pub own_texts_of : CrateRecord → FolderReads → List OwnText
own_texts_of krate known_reads =
    filter_map text_in (files_heard known_reads (pack_paths known_reads krate.license_file []))

-- the records of the reads for them: the listing of the folder, and each of these files, in the order of the listing
abbrev pub own_records_of : CrateRecord → FolderReads → List ReadRecord
own_records_of krate known_reads = records_with [] krate known_reads

-- Over a tree reads were made for a crate, and no other call: they are just those that its own texts ask for, and the
-- texts and the records are those that the answers tell.
pub record HasOwnTexts (told tells : Option Content) (before after : ℕ) (old new : List Call) (krate : CrateRecord)
    (own : OwnTexts) : Type 0 where
  pub reads : List AnsweredRead
  pub recorded_are : records_of_reads reads ≡ own.reads
  pub made : MadeReads told tells before after old new (folder_of krate) reads
  pub due : own.reads ≡ own_records_of krate (known_reads_by reads)
  pub texts : own.texts ≡ own_texts_of krate (known_reads_by reads)
