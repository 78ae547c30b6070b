-- The lines of a bill: an SPDX 2.3 document in tag-value form.
use Rattle.std.specs.Prelude.{ℕ, ◌+◌, List, [], ◌∷◌, ◌++◌, codes, decimal}
use Rattle.check_bill.specs.declared.bill.Bill.{Bill}
use Rattle.check_bill.specs.declared.bill.BillPackage.{BillPackage}

-- a tag with its text, and the lines behind it
abbrev pub line : List ℕ → List ℕ → List ℕ → List ℕ
line tag text rest = tag ++ (text ++ (codes "\n" ++ rest))

-- the lines in front of the packages, and what is behind them
abbrev pub head_before : Bill → List ℕ → List ℕ
head_before bill rest =
    line (codes "SPDXVersion: ") (codes "SPDX-2.3")
    (line (codes "DataLicense: ") (codes "CC0-1.0")
    (line (codes "SPDXID: ") (codes "SPDXRef-DOCUMENT")
    (line (codes "DocumentName: ") bill.name
    (line (codes "DocumentNamespace: ") bill.namespace
    (line (codes "Creator: ") (codes "Tool: cargo-deny-0.20.2")
    (line (codes "Created: ") bill.created rest))))))

-- what a package is called in its bill
abbrev pub reference : ℕ → List ℕ
reference number = codes "SPDXRef-" ++ decimal number

-- an empty line and what a package is called, and what is behind them
abbrev pub named_before : ℕ → BillPackage → List ℕ → List ℕ
named_before number krate rest =
    line [] []
    (line (codes "PackageName: ") krate.name
    (line (codes "SPDXID: ") (reference number)
    (line (codes "PackageVersion: ") krate.version rest)))

-- what is said of its licence, and what is behind it
abbrev pub licensed_before : ℕ → BillPackage → List ℕ → List ℕ
licensed_before number krate rest =
    line (codes "PackageDownloadLocation: ") (codes "NOASSERTION")
    (line (codes "FilesAnalyzed: ") (codes "false")
    (line (codes "PackageLicenseConcluded: ") krate.concluded
    (line (codes "PackageLicenseDeclared: ") krate.declared
    (line (codes "PackageCopyrightText: ") (codes "NOASSERTION")
    (line (codes "Relationship: ") (codes "SPDXRef-DOCUMENT DESCRIBES " ++ reference number) rest)))))

-- the lines of a package, and what is behind them
abbrev pub package_before : ℕ → BillPackage → List ℕ → List ℕ
package_before number krate rest = named_before number krate (licensed_before number krate rest)

-- packages that are numbered from a number on
abbrev pub packages_from : ℕ → List BillPackage → List ℕ
packages_from number [] = []
packages_from number (krate ∷ packages) = package_before number krate (packages_from (number + 1) packages)

-- all lines
abbrev pub lines_of : Bill → List ℕ
lines_of bill = head_before bill (packages_from 1 bill.packages)
