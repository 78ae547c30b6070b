-- The licences of all crates that are selected.
use Rattle.std.specs.Prelude.{◌≡◌, ℕ, ℤ, pos, negsuc, nat_le, false, List, None, option_copied, if◌then◌else◌}
use Rattle.std.specs.List.{flat_map}
use Rattle.spdx_terms.specs.catalog.Catalog.{CatalogLists}
use Rattle.spdx_terms.specs.declared.catalog.identifier.Match.{Match}
use Rattle.tree_core.specs.declared.reads.ReadRecord.{ReadRecord}
use Rattle.graph_core.specs.Krate.{CrateRecord, record_of}
use Rattle.gather_license.specs.files.KnownReads.{FolderReads}
use Rattle.gather_license.specs.expression.Scanned.{Scanner, match_by}
use Rattle.graph_core.specs.declared.selection.selection.Include.{Include}
use Rattle.policy_core.specs.declared.valid.policy.ValidConfig.{ValidConfig}
use Rattle.tree_core.specs.file_reads.Heard.{ReadResult}
use Rattle.diag_core.specs.File.{File}
use Rattle.gather_core.specs.Entries.{clarifications_of}
use Rattle.gather_core.specs.Rules.{GatherRules}
use Rattle.gather_core.specs.declared.gatherer.Gatherer.{Gatherer}
use Rattle.gather_core.specs.declared.summary.KrateLicense.{KrateLicense}
use Rattle.gather_core.specs.Taken.{turn_with}
use Rattle.gather_core.specs.Turns.{TurnInput}

-- the least score of a name that is joined: a number of hundredths, cut to 0..100
abbrev pub threshold_of : ℤ → ℕ
threshold_of (pos n) = if nat_le n 100 then n else 100
threshold_of (negsuc n) = 0

-- no store, 80 hundredths, and nothing is kept
abbrev pub IsDefault : {I : Type 0} → Gatherer I → Type 0
IsDefault gatherer = gatherer ≡ record { store = None; threshold = 80; keeps = false }

-- what texts are identified by
abbrev pub scanner_of_gatherer : {I : Type 0} → CatalogLists → (I → List ℕ → Match) → Gatherer I → Scanner
scanner_of_gatherer lists match_of gatherer = record {
  lists = lists;
  match_of = match_by match_of (option_copied gatherer.store);
  threshold = gatherer.threshold;
  keeps = gatherer.keeps;
}

-- ---- what of a policy gathering depends on

abbrev pub include_of : ValidConfig → Include
include_of policy = record { dev = policy.include_dev; build = policy.include_build }

-- ---- what is reported of each crate

abbrev pub krate_of : KrateLicense → CrateRecord
krate_of license = record_of license.krate.now

-- ---- turn after turn

-- the turn of a crate among all, with the table that the crates before have left
abbrev pub turn_of : Scanner → GatherRules → FolderReads → ReadResult → List File → KrateLicense
    → TurnInput
turn_of scanner all known_reads manifest files license =
    turn_with scanner (clarifications_of (krate_of license) all.clarifications) all.exceptions (krate_of license)
    known_reads manifest files

-- the reads of all crates, in the order of the calls
abbrev pub all_reads : List KrateLicense → List ReadRecord
all_reads licenses = flat_map (λ license. license.reads) licenses
