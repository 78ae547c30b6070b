-- What the call that settles a crate's licence answers.
use Rattle.std.specs.Prelude.{◌≡◌, ℕ, List, [], ◌∷◌, ◌++◌, length, Option, option_copied, if◌then◌else◌}
use Rattle.std.specs.Option.{option_to_list}
use Rattle.diag_core.specs.declared.label.Coord.{Coord}
use Rattle.spdx_terms.specs.catalog.Catalog.{CatalogLists}
use Rattle.spdx_terms.specs.declared.catalog.identifier.Match.{Match}
use Rattle.graph_core.specs.Krate.{CrateRecord}
use Rattle.gather_license.specs.files.KnownReads.{FolderReads, holds, missing_from}
use Rattle.gather_license.specs.files.Steps.{Agrees}
use Rattle.gather_license.specs.expression.Scanned.{Scanner, match_by}
use Rattle.gather_license.specs.declared.scan.Scan.{Scan}
use Rattle.gather_license.specs.declared.settle.SettledLicense.{SettledLicense}
use Rattle.gather_license.specs.Clarification.{ClarificationView, named_in, place_of}
use Rattle.gather_license.specs.Priority.{folder_of, records_of, basis_of}

-- what texts are identified by, of what was handed in
abbrev pub scanner_of_scan : {I C : Type 0} → (C → CatalogLists) → (I → List ℕ → Match) → Scan I C → Scanner
scanner_of_scan lists_of match_of scan = record {
  lists = lists_of scan.catalog.now;
  match_of = match_by match_of (option_copied scan.identifier);
  threshold = scan.threshold;
  keeps = scan.keeps;
}

-- ---- files of clarifications that are not there

-- the place of the first file that does not match, where nothing is there
abbrev pub missing_in : FolderReads → ClarificationView → Option Coord
missing_in known_reads one = place_of one (missing_from known_reads 0 (named_in one))

-- of the clarifications that are tried, up to and with the first that holds, each in its own file
abbrev pub missing_of : FolderReads → List ClarificationView → List Coord
missing_of known_reads [] = []
missing_of known_reads (one ∷ more) =
    option_to_list (missing_in known_reads one)
    ++ (if holds known_reads (named_in one) then [] else missing_of known_reads more)

-- A crate's licence is settled by what has priority by some known reads; what is not there is reported, and the reads
-- are recorded by them.
pub record IsSettledBy (scanner : Scanner) (clarifications : List ClarificationView) (krate : CrateRecord)
    (known_reads : FolderReads) (settled : SettledLicense) : Type 0 where
  pub by_is : settled.by ≡ basis_of scanner clarifications krate known_reads
  pub missing_is : settled.missing ≡ missing_of known_reads clarifications
  pub reads_are : settled.pack.reads ≡ records_of scanner clarifications krate known_reads

-- A crate's licence is settled from some known reads: they agree with what was read of its folder, and by whatever
-- agrees with that it is settled so. What is read later changes nothing of it.
pub record IsSettledFrom (scanner : Scanner) (clarifications : List ClarificationView) (krate : CrateRecord)
    (known_reads : FolderReads) (settled : SettledLicense) : Type 0 where
  pub folder : settled.pack.folder ≡ folder_of krate
  pub made : settled.reads_made ≡ length settled.pack.reads
  pub agrees : Agrees known_reads settled.pack
  pub by_any : (other : FolderReads) → Agrees other settled.pack
      → IsSettledBy scanner clarifications krate other settled
