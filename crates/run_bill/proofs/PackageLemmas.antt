-- Crates beside their reports, of which none is left.
use Rattle.std.proofs.Common.{◌≡◌, arith, refl, length, List, [], ◌∷◌, map}
use Rattle.std.specs.Borrow.{Bor}
use Rattle.graph_core.specs.Krate.{CrateRecord}
use Rattle.graph_core.specs.declared.krate.Krate.{Krate}
use Rattle.graph_core.specs.selection.Listed.{record_behind}
use Rattle.check_core.specs.declared.report.CrateReport.{CrateReport}
use Rattle.run_bill.specs.Bills.{packages_of}

pub no_crates_left : (krates : List (Bor Krate)) (reports : List CrateReport) → length krates ≡ 0 → packages_of (map record_behind krates) reports ≡ []
no_crates_left [] reports none = refl
no_crates_left (krate ∷ krates) reports none = absurd (omega arith)

pub no_reports_left : (crates : List CrateRecord) (reports : List CrateReport) → length reports ≡ 0 → packages_of crates reports ≡ []
no_reports_left [] reports none = refl
no_reports_left (krate ∷ crates) [] none = refl
no_reports_left (krate ∷ crates) (report ∷ reports) none = absurd (omega arith)
