-- The licence texts that crates come with, and the reads for these, crate after crate.
use Rattle.std.specs.Prelude.{◌≡◌, ◌⊎◌, ℕ, List, [], ◌∷◌, ◌++◌, map, All, Option}
use Rattle.std.specs.Option.{option_to_list}
use Rattle.tree_core.specs.Call.{Call}
use Rattle.tree_core.specs.declared.reads.ReadRecord.{ReadRecord}
use Rattle.tree_core.specs.file_reads.Read.{AnsweredRead, AreReads, call_lost, calls_in, records_of_reads}
use Rattle.graph_core.specs.Krate.{CrateRecord}
use Rattle.gather_license.specs.declared.texts.OwnText.{OwnText}
use Rattle.gather_license.specs.files.Calls.{IsFront}
use Rattle.gather_license.specs.files.KnownReads.{known_reads_by}
use Rattle.gather_license.specs.OwnTexts.{own_records_of, own_texts_of}
use Rattle.gather_license.specs.Priority.{folder_of}
use Rattle.gather_core.specs.Calls.{ReadsOfCrate, calls_of_all, reads_of_all}
use Rattle.run_found.specs.declared.reads.CrateRead.{CrateRead}
use Rattle.run_found.specs.Hearing.{MadeOn, TreeSeen}
use Rattle.run_notice.specs.declared.own.CrateTexts.{CrateTexts}

-- ---- one crate

-- the texts that a crate comes with, by what the answers to its own reads say
abbrev pub own_heard : ReadsOfCrate → List OwnText
own_heard one = own_texts_of one.krate (known_reads_by one.reads)

-- its own reads are just those that these texts ask for
abbrev pub ReadsOwnTexts : ReadsOfCrate → Type 0
ReadsOwnTexts one = records_of_reads one.reads ≡ own_records_of one.krate (known_reads_by one.reads)

abbrev pub own_of : ReadsOfCrate → CrateTexts
own_of one =
    record { id = one.krate.id; own = record { texts = own_heard one; reads = records_of_reads one.reads } }

-- ---- crates

abbrev pub crates_in : List ReadsOfCrate → List CrateRecord
crates_in own = map (λ (one : ReadsOfCrate). one.krate) own

-- a crate's id, and the records of the reads for its texts
abbrev pub own_read_told : ReadsOfCrate → CrateRead
own_read_told one = record { id = one.krate.id; reads = records_of_reads one.reads }

abbrev pub read_kept : CrateTexts → CrateRead
read_kept texts = record { id = texts.id; reads = texts.own.reads }

-- These crates have their own reads, each just those that its texts ask for, and the records tell what the answers say,
-- from a count of faults on.
pub record AreOwnReads (crates : List CrateRecord) (begun : ℕ) (own : List ReadsOfCrate) : Type 0 where
  pub crates_are : crates_in own ≡ crates
  pub due : All ReadsOwnTexts own
  pub records : AreReads begun (reads_of_all own)

-- ---- over a tree

-- The texts that crates come with are those that the answers to their own reads tell: the calls of these were made, one
-- crate after another, and no other.
pub record HaveOwnTexts (crates : List CrateRecord) (tree : TreeSeen) (texts : List CrateTexts) : Type 0 where
  pub own : List ReadsOfCrate
  pub made : MadeOn tree (calls_of_all own)
  pub are : AreOwnReads crates tree.count_before own
  pub texts_are : texts ≡ map own_of own

-- the own reads of one more crate were begun: they, and the call that found no memory, are the first ones of those that
-- its texts ask for
pub record IsOwnBegun (crates earlier : List CrateRecord) (lost : List Call) : Type 0 where
  pub krate : CrateRecord
  pub reads : List AnsweredRead
  pub next : Option ReadRecord
  pub among : IsFront (earlier ++ krate ∷ []) crates
  pub lost_is : lost ≡ calls_in (folder_of krate) reads ++ call_lost (folder_of krate) next
  pub front : IsFront (records_of_reads reads ++ option_to_list next) (own_records_of krate (known_reads_by reads))

-- Memory was wanting: the first ones of the crates have their own reads, and perhaps those of one more were begun.
pub record IsOwnCut (crates : List CrateRecord) (tree : TreeSeen) : Type 0 where
  pub own : List ReadsOfCrate
  pub lost : List Call
  pub made : MadeOn tree (calls_of_all own ++ lost)
  pub due : All ReadsOwnTexts own
  pub among : IsFront (crates_in own) crates
  pub ends : (lost ≡ []) ⊎ IsOwnBegun crates (crates_in own) lost
