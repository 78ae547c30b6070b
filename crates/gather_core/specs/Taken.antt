-- What is taken at a crate's turn.
use Rattle.std.specs.Prelude.{◌≡◌, ℕ, Bool, true, false, List, ◌++◌, length, Option}
use Rattle.std.specs.List.{fold}
use Rattle.tree_core.specs.Call.{Call}
use Rattle.tree_core.specs.Content.{Content}
use Rattle.graph_core.specs.Krate.{CrateRecord}
use Rattle.tree_core.specs.file_reads.Heard.{ReadResult}
use Rattle.tree_core.specs.file_reads.Read.{records_of_reads}
use Rattle.gather_license.specs.files.Calls.{GoesBy}
use Rattle.gather_license.specs.files.KnownReads.{FolderReads}
use Rattle.gather_license.specs.files.Steps.{Agrees, with_path}
use Rattle.gather_license.specs.files.View.{PackView, paths_read}
use Rattle.gather_license.specs.expression.Kept.{kept_by}
use Rattle.gather_license.specs.expression.Scanned.{Scanner}
use Rattle.diag_core.specs.File.{File}
use Rattle.gather_license.specs.declared.location.location.LocatedField.{LocatedField}
use Rattle.gather_license.specs.Clarification.{ClarificationView}
use Rattle.gather_license.specs.Priority.{folder_of, records_of}
use Rattle.gather_license.specs.Settled.{missing_of}
use Rattle.gather_license.specs.declared.settling.LicenseBasis.{LicenseBasis}
use Rattle.gather_license.specs.declared.settling.LicenseBasis.TheVariants.{Clarified, Field, Files}
use Rattle.gather_core.specs.declared.turn.LocatedLicense.{LocatedLicense}
use Rattle.gather_core.specs.declared.turn.TakenLicense.{TakenLicense}
use Rattle.gather_core.specs.Exceptions.{ExceptionRules, counted_of, named_for}
use Rattle.gather_core.specs.Turns.{TurnInput, files_located, files_where, in_order, located_in, located_where}
use Rattle.gather_core.specs.Turns.{basis_in, kept_in, records_in}

abbrev pub is_clarified : LicenseBasis → Bool
is_clarified (Clarified held) = true
is_clarified (Field expression) = false
is_clarified (Files seen joined) = false

-- a field was located where it was asked for, and the table is what it is then
pub record IsLocatedWhere (asks : Bool) (krate : CrateRecord) (old : List File) (manifest : ReadResult)
    (located : LocatedField) (new : List File) : Type 0 where
  pub located_is : located ≡ located_where asks krate old manifest
  pub files_are : new ≡ files_where asks krate old manifest

abbrev pub turn_with : Scanner → List ClarificationView → ExceptionRules → CrateRecord → FolderReads → ReadResult
    → List File → TurnInput
turn_with scanner clarifications exceptions krate known_reads manifest files = record {
  scanner = scanner;
  clarifications = clarifications;
  exceptions = exceptions;
  krate = krate;
  known_reads = known_reads;
  manifest = manifest;
  files = files;
}

-- ---- before the files of exceptions are looked at

-- what settles the licence and where the field is are what the turn asks for, and so are the reads and the table
pub record IsBegun (turn : TurnInput) (located : LocatedLicense) (files : List File) : Type 0 where
  pub by : located.by ≡ basis_in turn
  pub missing : located.missing ≡ missing_of turn.known_reads turn.clarifications
  pub location : located.location ≡ (located_in turn).location
  pub manifest : located.manifest ≡ (located_in turn).read
  pub reads : located.pack.reads ≡ records_of turn.scanner turn.clarifications turn.krate turn.known_reads
  pub table : files ≡ files_located turn

-- the turn, where this is read of its folder and its files
abbrev pub with_known : TurnInput → FolderReads → TurnInput
with_known turn other =
    turn_with turn.scanner turn.clarifications turn.exceptions turn.krate other turn.manifest turn.files

-- The turn's reads agree with what was read of the crate's folder, and the turn is begun so by whatever agrees with
-- that.
pub record IsBegunFrom (turn : TurnInput) (located : LocatedLicense) (files : List File) : Type 0 where
  pub folder : located.pack.folder ≡ folder_of turn.krate
  pub made : located.reads_made ≡ length located.pack.reads
  pub agrees : Agrees turn.known_reads located.pack
  pub by_any : (other : FolderReads) → Agrees other located.pack → IsBegun (with_known turn other) located files

-- ---- the exceptions that count

pub record Keeps (located : LocatedLicense) (taken : TakenLicense) : Type 0 where
  pub by : taken.by ≡ located.by
  pub missing : taken.missing ≡ located.missing
  pub location : taken.location ≡ located.location

-- The pack went on over a tree to one that is left, and no other call was made; by whatever known reads agree with that
-- one, the exceptions that count and the files that were looked at are those of the rules, and of its files it is kept
-- what the scanner asks for. The reads in order are those before, and then these.
pub record CountsBy (told tells : Option Content) (before after : ℕ) (old new : List Call) (scanner : Scanner)
    (rules : ExceptionRules) (krate : CrateRecord) (manifest_first : Bool) (located : LocatedLicense)
    (taken : TakenLicense) : Type 0 where
  pub left : PackView
  pub goes : GoesBy told tells before after old new located.pack left
  pub counted : (known_reads : FolderReads) → Agrees known_reads left
      → taken.exceptions ≡ counted_of rules krate known_reads
  pub paths : (known_reads : FolderReads) → Agrees known_reads left
      → paths_read left.reads ≡ fold with_path (paths_read located.pack.reads) (named_for rules krate known_reads)
  pub kept : (known_reads : FolderReads) → Agrees known_reads left
      → taken.kept ≡ kept_by scanner known_reads left.reads
  pub reads : taken.reads
      ≡ in_order manifest_first located.manifest located.pack.reads ++ records_of_reads goes.reads

-- ---- the turn as a whole

-- what was taken is what the turn asks for, and the table has what it says
pub record IsTaken (turn : TurnInput) (taken : TakenLicense) (files : List File) : Type 0 where
  pub by : taken.by ≡ basis_in turn
  pub missing : taken.missing ≡ missing_of turn.known_reads turn.clarifications
  pub location : taken.location ≡ (located_in turn).location
  pub counted : taken.exceptions ≡ counted_of turn.exceptions turn.krate turn.known_reads
  pub reads : taken.reads ≡ records_in turn
  pub kept : taken.kept ≡ kept_in turn
  pub table : files ≡ files_located turn
