-- Over any tree, whatever it tells of its content: the calls that the steps of making a pack make, and what their
-- answers let be read.
use Rattle.std.specs.Prelude.{◌≡◌, ℕ, List, [], ◌++◌, map, Option, Some}
use Rattle.std.specs.List.{fold}
use Rattle.std.specs.Option.{option_map, option_to_list}
use Rattle.tree_core.specs.Call.{Call}
use Rattle.tree_core.specs.Content.{Content}
use Rattle.tree_core.specs.declared.reads.ReadKind.TheVariants.{LicenseFile}
use Rattle.tree_core.specs.declared.reads.ReadRecord.{ReadRecord}
use Rattle.tree_core.specs.file_reads.Heard.{ReadResult, absent, read_record_of}
use Rattle.tree_core.specs.file_reads.Read.{LackedMemory, MadeReads, AnsweredRead, records_of_reads}
use Rattle.gather_license.specs.files.KnownReads.{FolderReads, known_reads_by}
use Rattle.gather_license.specs.files.Pack.{license_files_in}
use Rattle.gather_license.specs.files.Steps.{Agrees, file_record, records_by, with_path}
use Rattle.gather_license.specs.files.View.{PackView, file_at, paths_read}

-- a pack is made of these reads: its records are theirs, and what it has is what their answers say
pub record IsMadeOf (reads : List AnsweredRead) (pack : PackView) : Type 0 where
  pub records : pack.reads ≡ records_of_reads reads
  pub agrees : Agrees (known_reads_by reads) pack

-- These reads went into a pack: what it had stays, their records come behind its own, there is one of each file that
-- came, and a pack that was made of some reads is then made of those and these. Where earlier reads of the same files
-- say what the pack had, those and these say what it has.
pub record TakesIn (reads : List AnsweredRead) (old new : PackView) : Type 0 where
  pub folder : new.folder ≡ old.folder
  pub listing : new.listing ≡ old.listing
  pub stays : (path : List ℕ) (heard : ReadResult) → file_at old.files path ≡ Some heard
      → file_at new.files path ≡ Some heard
  pub adds : new.reads ≡ old.reads ++ records_of_reads reads
  pub of_files : (known_reads : FolderReads) → Agrees known_reads new
      → records_of_reads reads ≡ map (file_record known_reads) (paths_read (records_of_reads reads))
  pub records : (known_reads : FolderReads) → Agrees known_reads new
      → old.reads ≡ records_by known_reads old.folder (paths_read old.reads)
      → new.reads ≡ records_by known_reads new.folder (paths_read new.reads)
  pub agreeing : (earlier : List AnsweredRead) → paths_read (records_of_reads earlier) ≡ paths_read old.reads
      → Agrees (known_reads_by earlier) old → Agrees (known_reads_by (earlier ++ reads)) new
  pub made_of : (earlier : List AnsweredRead) → IsMadeOf earlier old → IsMadeOf (earlier ++ reads) new

-- a pack went on over a tree by some reads, and no other call was made
pub record GoesBy (told tells : Option Content) (before after : ℕ) (old new : List Call)
    (pack next : PackView) : Type 0 where
  pub reads : List AnsweredRead
  pub takes : TakesIn reads pack next
  pub made : MadeReads told tells before after old new pack.folder reads

-- a pack was made over a tree, for a crate in this folder, of some reads, and no other call was made
pub record IsMadeBy (told tells : Option Content) (before after : ℕ) (old new : List Call) (folder : List ℕ)
    (pack : PackView) : Type 0 where
  pub reads : List AnsweredRead
  pub is : IsMadeOf reads pack
  pub made : MadeReads told tells before after old new folder reads

-- ---- for want of memory

-- the first ones of a list, in order
abbrev pub IsFront : {A : Type 0} → List A → List A → Type 0
IsFront {A} front all = (rest : List A) × (all ≡ front ++ rest)

-- the record of a file's read that is not made: nothing is there
abbrev pub unread_file : List ℕ → ReadRecord
unread_file path = read_record_of LicenseFile path absent

-- A pack went on over a tree by some reads, and then memory was wanting, perhaps in the call for one more file. By
-- whatever known reads agree with the pack that is lost, the files that were read, and that one, are the first ones of
-- those that are wanted.
pub record Starves (told tells : Option Content) (before after : ℕ) (old new : List Call) (pack : PackView)
    (wanted : FolderReads → List (List ℕ)) : Type 0 where
  pub reads : List AnsweredRead
  pub lost : PackView
  pub next : Option (List ℕ)
  pub takes : TakesIn reads pack lost
  pub made : LackedMemory told tells before after old new pack.folder reads (option_map unread_file next)
  pub front : (known_reads : FolderReads) → Agrees known_reads lost
      → IsFront (paths_read lost.reads ++ option_to_list next) (wanted known_reads)

-- what is read to begin a pack: the listing, and the files that are found
abbrev pub first_records : FolderReads → List ℕ → Option (List ℕ) → List ReadRecord
first_records known_reads folder license_file =
    records_by known_reads folder (fold with_path [] (license_files_in known_reads.listing license_file))

-- These reads were made over a tree, and then memory was wanting, perhaps in the call of one more. They, and that one,
-- are the first ones of those that are made by what they say.
pub record StarvesAmong (told tells : Option Content) (before after : ℕ) (old new : List Call) (folder : List ℕ)
    (wanted : FolderReads → List ReadRecord) : Type 0 where
  pub reads : List AnsweredRead
  pub next : Option ReadRecord
  pub made : LackedMemory told tells before after old new folder reads next
  pub front : IsFront (records_of_reads reads ++ option_to_list next) (wanted (known_reads_by reads))
