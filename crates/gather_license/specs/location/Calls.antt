-- Over any tree, whatever it tells of its content: the calls of locating a field, and what their answers say of the
-- manifest.
use Rattle.std.specs.Prelude.{◌≡◌, ℕ, List, ◌++◌, Option}
use Rattle.std.specs.Option.{option_to_list}
use Rattle.tree_core.specs.Call.{Call}
use Rattle.tree_core.specs.Content.{Content}
use Rattle.tree_core.specs.declared.reads.ReadKind.TheVariants.{Manifest}
use Rattle.tree_core.specs.declared.reads.ReadRecord.{ReadRecord}
use Rattle.tree_core.specs.file_reads.Heard.{ReadResult, is_kind}
use Rattle.tree_core.specs.file_reads.Read.{LackedMemory, MadeReads, AnsweredRead, first_heard, records_of_reads}
use Rattle.diag_core.specs.File.{File}
use Rattle.gather_license.specs.declared.location.location.LocatedField.{LocatedField}
use Rattle.gather_license.specs.location.Location.{IsLocated, located_of}

-- what the answers to a crate's reads say of its manifest: that of the first that is read; where none was, nothing is
-- there
abbrev pub manifest_by : List AnsweredRead → ReadResult
manifest_by reads = first_heard (λ read. is_kind Manifest read.kind) reads

-- A field was located over a tree by these reads, of which the located one has the records: their calls were made, and
-- no other, and the location and the table are those by what the answers say of the manifest. A manifest's call is the
-- same for a crate in any folder.
pub record IsLocatedBy (told tells : Option Content) (before after : ℕ) (old new : List Call) (path field : List ℕ)
    (files : List File) (located : LocatedField) (joined : List File) : Type 0 where
  pub reads : List AnsweredRead
  pub records : records_of_reads reads ≡ option_to_list located.read
  pub made : (folder : List ℕ) → MadeReads told tells before after old new folder reads
  pub is : IsLocated path field files (manifest_by reads) located joined

-- These reads were made, and then memory was wanting, perhaps in the call of one more: they, and that one, are the
-- first ones of those that are made by what they say.
pub record StarvesLocating (told tells : Option Content) (before after : ℕ) (old new : List Call) (path field : List ℕ)
    (files : List File) : Type 0 where
  pub reads : List AnsweredRead
  pub next : Option ReadRecord
  pub made : (folder : List ℕ) → LackedMemory told tells before after old new folder reads next
  pub rest : List ReadRecord
  pub front : option_to_list (located_of path field files (manifest_by reads)).read
      ≡ (records_of_reads reads ++ option_to_list next) ++ rest
