-- The bill of crates, by the report on each.
use Rattle.std.specs.Prelude.{◌≡◌, ℕ, not, List, [], ◌∷◌, find, option_map, Option, Some, None, Result, Ok, Err}
use Rattle.semver.specs.Identifiers.{parts_text}
use Rattle.graph_core.specs.Krate.{CrateRecord}
use Rattle.check_core.specs.declared.report.CrateReport.{CrateReport}
use Rattle.check_bill.specs.declared.bill.Bill.{Bill}
use Rattle.check_bill.specs.declared.bill.BillPackage.{BillPackage}
use Rattle.check_bill.specs.Bills.{is_line}
use Rattle.run_request.specs.declared.bill.BillArgs.{BillArgs}
use Rattle.run_found.specs.declared.error.Error.{Error}
use Rattle.run_found.specs.declared.error.Error.TheVariants.{Memory, BillText}
use Rattle.run_bill.specs.Licences.{concluded_of, declared_of}

-- ---- what is in a bill

abbrev pub version_text : CrateRecord → List ℕ
version_text krate = parts_text krate.version

-- a crate, with the licence that is declared for it and the one that the policy's choice concludes
abbrev pub package_of : CrateRecord → CrateReport → BillPackage
package_of krate report = record {
  name = krate.name;
  version = version_text krate;
  concluded = concluded_of report;
  declared = declared_of report;
}

-- crates in the order of their ids, each by its own report
abbrev pub packages_of : List CrateRecord → List CrateReport → List BillPackage
packages_of [] reports = []
packages_of (krate ∷ crates) [] = []
packages_of (krate ∷ crates) (report ∷ reports) = package_of krate report ∷ packages_of crates reports

abbrev pub bill_with : BillArgs → List BillPackage → Bill
bill_with words packages = record {
  name = words.name;
  namespace = words.namespace;
  created = words.created;
  packages = packages;
}

-- the bill that words ask for
abbrev pub bill_of : BillArgs → List CrateRecord → List CrateReport → Bill
bill_of words crates reports = bill_with words (packages_of crates reports)

-- ---- where there is none

-- the first crate whose name is empty or has the end of a line
abbrev pub first_unfit : List CrateRecord → Option CrateRecord
first_unfit crates = find (λ krate. not (is_line krate.name)) crates

-- such a crate has this id
abbrev pub IsUnfit : List CrateRecord → List ℕ → Type 0
IsUnfit crates id = option_map (λ krate. krate.id) (first_unfit crates) ≡ Some id

-- the bill where there is no such crate, else the first one's id; want of memory is free. Only the contracts of private
-- calls cite it.
abbrev pub IsBillOf : BillArgs → List CrateRecord → List CrateReport → Result Bill Error → Type 0
IsBillOf words crates reports (Ok bill) = (first_unfit crates ≡ None) × (bill ≡ bill_of words crates reports)
IsBillOf words crates reports (Err Memory) = Unit {0}
IsBillOf words crates reports (Err (BillText id)) = IsUnfit crates id
IsBillOf words crates reports (Err _) = ⊥
