-- Over any tree, whatever it tells of its content: what is so by the reads that were made.
use Rattle.std.specs.Prelude.{◌≡◌, ℕ, List, Option}
use Rattle.tree_core.specs.Call.{Call}
use Rattle.tree_core.specs.Content.{Content}
use Rattle.tree_core.specs.declared.reads.ReadRecord.{ReadRecord}
use Rattle.tree_core.specs.file_reads.Read.{MadeReads, AnsweredRead, records_of_reads}
use Rattle.gather_license.specs.files.KnownReads.{FolderReads, known_reads_by}

-- Reads with these records were made over a tree, for a crate in this folder: their calls were made, and no other, and
-- this is so by what their answers say.
pub record IsByReads (told tells : Option Content) (before after : ℕ) (old new : List Call) (folder : List ℕ)
    (recorded : List ReadRecord) (IsSo : FolderReads → Type 0) : Type 0 where
  pub reads : List AnsweredRead
  pub records : records_of_reads reads ≡ recorded
  pub made : MadeReads told tells before after old new folder reads
  pub is_so : IsSo (known_reads_by reads)
