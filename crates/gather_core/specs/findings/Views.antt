-- What is handed in, as the definitions take it.
use Rattle.std.specs.Prelude.{ℕ, List, option_copied}
use Rattle.std.specs.Borrow.{Bor}
use Rattle.graph_core.specs.Krate.{record_of}
use Rattle.gather_core.specs.declared.findings.case.UnclarifiedCrate.{UnclarifiedCrate}
use Rattle.gather_core.specs.declared.findings.case.ExpressionBasis.{ExpressionBasis}
use Rattle.gather_core.specs.declared.findings.case.ExpressionBasis.TheVariants.{Field, Files}
use Rattle.gather_core.specs.declared.findings.case.SeenFiles.{SeenFiles}
use Rattle.gather_core.specs.declared.findings.case.SeenFiles.TheVariants.{Unlisted, Listed}
use Rattle.gather_core.specs.findings.Findings.{UnclarifiedCrateView, ExpressionBasisView, by_field, by_files}
use Rattle.gather_core.specs.findings.Pieces.{SeenFilesView, unlisted, listed}

abbrev pub seen_view : SeenFiles → SeenFilesView
seen_view (Unlisted error) = unlisted error
seen_view (Listed files) = listed files.now

abbrev pub outcome_view : ExpressionBasis → ExpressionBasisView
outcome_view Field = by_field
outcome_view (Files seen joined) = by_files (seen_view seen) (option_copied joined)

abbrev pub case_view : UnclarifiedCrate → UnclarifiedCrateView
case_view case = record {
  krate = record_of case.krate.now;
  folder = case.folder.now;
  location = case.location;
  faults = case.faults.now;
  outcome = outcome_view case.settles;
}

-- a text that is lent
abbrev pub lent_text : Bor (List ℕ) → List ℕ
lent_text text = text.now
