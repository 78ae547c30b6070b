-- The licences of crates, turn after turn.
use Rattle.std.specs.Prelude.{◌≡◌, ◌⊎◌, ℕ, Bool, true, List, [], ◌∷◌, ◌++◌, map, All, Option, IfSome, option_map}
use Rattle.std.specs.Option.{option_to_list}
use Rattle.tree_core.specs.Call.{Call}
use Rattle.tree_core.specs.declared.reads.ReadKind.TheVariants.{Manifest}
use Rattle.tree_core.specs.declared.reads.ReadRecord.{ReadRecord}
use Rattle.spdx_terms.specs.catalog.Catalog.{CatalogLists}
use Rattle.spdx_terms.specs.declared.catalog.identifier.Match.{Match}
use Rattle.spdx_core.specs.Reading.{ExpressionView}
use Rattle.graph_core.specs.Krate.{CrateRecord}
use Rattle.graph_core.specs.Metadata.{Graph}
use Rattle.graph_core.specs.selection.Choice.{Choice}
use Rattle.graph_core.specs.selection.Listed.{IsListOf}
use Rattle.graph_core.specs.selection.Walks.{Selected}
use Rattle.tree_core.specs.file_reads.Read.{AreReads, call_lost, records_of_reads}
use Rattle.gather_license.specs.files.Calls.{IsFront}
use Rattle.gather_license.specs.files.KnownReads.{FolderReads, known_reads_by}
use Rattle.gather_license.specs.files.Steps.{file_record}
use Rattle.gather_license.specs.files.View.{paths_read}
use Rattle.gather_license.specs.expression.Scanned.{Scanner}
use Rattle.gather_license.specs.Clarification.{ClarificationView}
use Rattle.gather_license.specs.Priority.{LicenseAnswer, folder_of, is_nothing, priority_of, records_of}
use Rattle.diag_core.specs.File.{File}
use Rattle.policy_core.specs.declared.valid.policy.ValidConfig.{ValidConfig}
use Rattle.gather_core.specs.Calls.{AreTurnsBy, ReadsOfCrate, CrateTurn, HasOwnReads, calls_of_all, files_behind_all}
use Rattle.gather_core.specs.Calls.{reads_of_all, turn_by, turns_of}
use Rattle.gather_core.specs.Entries.{clarifications_of, entries_of}
use Rattle.gather_core.specs.Exceptions.{counted_of, exception_rules, further_paths, looked_for}
use Rattle.gather_core.specs.Gathered.{include_of, krate_of, threshold_of}
use Rattle.gather_core.specs.Rules.{rules_of}
use Rattle.gather_core.specs.Turns.{asks_manifest, in_order, records_in}
use Rattle.gather_core.specs.declared.summary.KrateLicense.{KrateLicense}
use Rattle.run_found.specs.Hearing.{MadeOn, TreeSeen}

-- What texts are identified by: the catalogue, the identifier, and the least score that the policy asks for; and
-- whether it is kept what each licence file is.
abbrev pub scanner_of_policy : Bool → CatalogLists → (List ℕ → Match) → ValidConfig → Scanner
scanner_of_policy keeps lists match_of policy =
    record { lists = lists; match_of = match_of; threshold = threshold_of policy.confidence_threshold; keeps = keeps }

-- ---- one crate

-- What has priority of a crate, by what the answers to its own reads say: a clarification of the policy whose files
-- have their hashes, else the crate's field, else what its licence files are identified as, else nothing.
abbrev pub priority_heard : Scanner → ValidConfig → ReadsOfCrate → Option LicenseAnswer
priority_heard scanner policy one =
    priority_of scanner (clarifications_of one.krate (entries_of policy)) one.krate (known_reads_by one.reads)

-- The exceptions of the policy that count for a crate, as their places in its list, by what the answers to its own
-- reads say.
abbrev pub counted_heard : ValidConfig → ReadsOfCrate → List ℕ
counted_heard policy one = counted_of (exception_rules policy) one.krate (known_reads_by one.reads)

-- its expression
abbrev pub expression_in : Option LicenseAnswer → Option ExpressionView
expression_in answer = option_map (λ own. own.expression) answer

-- the read of a crate's manifest, which is asked for where no clarification holds and the field is not null
pub record IsManifestRead (clarifications : List ClarificationView) (krate : CrateRecord) (known_reads : FolderReads)
    (read : ReadRecord) : Type 0 where
  pub asked : asks_manifest clarifications krate known_reads ≡ true
  pub kind : read.kind ≡ Manifest
  pub path : read.path ≡ krate.manifest_path

-- the records that a crate's licence asks for by what the answers to its own reads say, and perhaps the one of its
-- manifest
abbrev pub license_records : Scanner → ValidConfig → ReadsOfCrate → Option ReadRecord → List ReadRecord
license_records scanner policy one manifest =
    in_order (is_nothing (clarifications_of one.krate (entries_of policy))) manifest
    (records_of scanner (clarifications_of one.krate (entries_of policy)) one.krate (known_reads_by one.reads))

-- those of the files that exceptions look at by what the answers say, and that were not read before
abbrev pub exception_records : ValidConfig → ReadsOfCrate → List ReadRecord → List ReadRecord
exception_records policy one before =
    map (file_record (known_reads_by one.reads))
    (further_paths (paths_read before) (looked_for (exception_rules policy) one.krate (known_reads_by one.reads)))

-- The records of a crate's reads are those that its licence asks for, perhaps the one of its manifest, and behind them
-- those of the files that exceptions look at, all by what their answers say; each file is read once.
pub record ReadsItsFiles (scanner : Scanner) (policy : ValidConfig) (one : ReadsOfCrate) : Type 0 where
  pub manifest : Option ReadRecord
  pub of_manifest : IfSome manifest
      (IsManifestRead (clarifications_of one.krate (entries_of policy)) one.krate (known_reads_by one.reads))
  pub are : records_of_reads one.reads
      ≡ license_records scanner policy one manifest
      ++ exception_records policy one (license_records scanner policy one manifest)

-- ---- turn after turn

-- the turns of the crates, one after another, each by its own reads, from a file table on
abbrev pub turns_heard : Scanner → ValidConfig → List File → List ReadsOfCrate → List CrateTurn
turns_heard scanner policy files crates = turns_of scanner (rules_of policy) files crates

-- ---- over a tree

-- The licences of the crates that a choice selects, which these reads settled, turn after turn from a file table on to
-- the one that is left: the calls of these reads were made on the tree, and no other.
pub record IsGatheredOn (scanner : Scanner) (policy : ValidConfig) (tree : TreeSeen) (files last : List File)
    (graph : Graph) (choice : Choice) (licenses : List KrateLicense) : Type 0 where
  pub crates : List ReadsOfCrate
  pub made : MadeOn tree (calls_of_all crates)
  pub records : AreReads tree.count_before (reads_of_all crates)
  pub selected : IsListOf graph (Selected graph choice (include_of policy)) (map krate_of licenses)
  pub turns : AreTurnsBy files (turns_heard scanner policy files crates) licenses last

-- The turn of one more crate was begun: its reads, and the call that found no memory, are the first ones of those that
-- its turn asks for.
pub record IsTurnBegun (scanner : Scanner) (policy : ValidConfig) (files : List File)
    (earlier crates : List ReadsOfCrate) (lost : List Call) : Type 0 where
  pub one : ReadsOfCrate
  pub next : Option ReadRecord
  pub crates_are : crates ≡ earlier ++ one ∷ []
  pub lost_is : lost ≡ call_lost (folder_of one.krate) next
  pub front : IsFront (records_of_reads one.reads ++ option_to_list next)
      (records_in (turn_by scanner (rules_of policy)
      (files_behind_all files (turns_heard scanner policy files earlier)) one).turn)

-- The first ones of these crates had their turns, from a file table on, each by its own reads, and perhaps one more was
-- begun.
pub record HaveTurns (scanner : Scanner) (policy : ValidConfig) (files : List File) (checked : List CrateRecord)
    (crates : List ReadsOfCrate) (lost : List Call) : Type 0 where
  pub earlier : List ReadsOfCrate
  pub own : All HasOwnReads (turns_heard scanner policy files earlier)
  pub ends : ((crates ≡ earlier) × (lost ≡ [])) ⊎ IsTurnBegun scanner policy files earlier crates lost
  pub among : IsFront (map (λ (one : ReadsOfCrate). one.krate) crates) checked

-- memory was wanting, and the first ones of the crates that a choice selects had their turns
pub record IsGatherCut (scanner : Scanner) (policy : ValidConfig) (tree : TreeSeen) (files : List File) (graph : Graph)
    (choice : Choice) : Type 0 where
  pub crates : List ReadsOfCrate
  pub lost : List Call
  pub made : MadeOn tree (calls_of_all crates ++ lost)
  pub checked : List CrateRecord
  pub selected : IsListOf graph (Selected graph choice (include_of policy)) checked
  pub turns : HaveTurns scanner policy files checked crates lost
