-- The lines of a head and of a package, and what is behind them.
use Rattle.std.proofs.Common.{◌≡◌, ◌∙◌, refl, sym, ap, ℕ, ◌+◌, ◌<◌, drop, get_or, length, List, [], ◌∷◌, ◌++◌, append_assoc, codes, decimal}
use Rattle.std.proofs.lemmas.List.{drop_more}
use Rattle.check_bill.specs.declared.bill.Bill.{Bill}
use Rattle.check_bill.specs.declared.bill.BillPackage.{BillPackage}
use Rattle.check_bill.specs.Lines.{head_before, licensed_before, named_before, package_before, packages_from}

-- what the texts of a head stand behind
abbrev pub to_name : List ℕ
to_name = codes "SPDXVersion: SPDX-2.3\nDataLicense: CC0-1.0\nSPDXID: SPDXRef-DOCUMENT\nDocumentName: "

abbrev pub to_namespace : List ℕ
to_namespace = codes "\nDocumentNamespace: "

abbrev pub to_created : List ℕ
to_created = codes "\nCreator: Tool: cargo-deny-0.20.2\nCreated: "

-- and those of a package
abbrev pub to_package : List ℕ
to_package = codes "\nPackageName: "

abbrev pub to_number : List ℕ
to_number = codes "\nSPDXID: SPDXRef-"

abbrev pub to_version : List ℕ
to_version = codes "\nPackageVersion: "

abbrev pub to_concluded : List ℕ
to_concluded = codes "\nPackageDownloadLocation: NOASSERTION\nFilesAnalyzed: false\nPackageLicenseConcluded: "

abbrev pub to_declared : List ℕ
to_declared = codes "\nPackageLicenseDeclared: "

abbrev pub to_last : List ℕ
to_last = codes "\nPackageCopyrightText: NOASSERTION\nRelationship: SPDXRef-DOCUMENT DESCRIBES SPDXRef-"

-- a text between two others
between : (front text more rest after : List ℕ) → more ++ rest ≡ after → (front ++ (text ++ more)) ++ rest ≡ front ++ (text ++ after)
between front text more rest after is =
    append_assoc front (text ++ more) rest ∙ ap (λ (all : List ℕ). front ++ all) (append_assoc text more rest ∙ ap (λ (all : List ℕ). text ++ all) is)

-- ---- heads

module _ (bill : Bill) where
  abbrev from_created : List ℕ → List ℕ
  from_created rest = to_created ++ (bill.created ++ (10 ∷ rest))

  abbrev from_namespace : List ℕ → List ℕ
  from_namespace rest = to_namespace ++ (bill.namespace ++ from_created rest)

  pub head_rest : (rest : List ℕ) → head_before bill [] ++ rest ≡ head_before bill rest
  head_rest rest =
      between to_name bill.name (from_namespace []) rest (from_namespace rest)
      (between to_namespace bill.namespace (from_created []) rest (from_created rest)
      (between to_created bill.created (10 ∷ []) rest (10 ∷ rest) refl))

-- ---- packages

module _ (number : ℕ) (krate : BillPackage) where
  abbrev from_last : List ℕ → List ℕ
  from_last rest = to_last ++ (decimal number ++ (10 ∷ rest))

  abbrev from_declared : List ℕ → List ℕ
  from_declared rest = to_declared ++ (krate.declared ++ from_last rest)

  abbrev from_concluded : List ℕ → List ℕ
  from_concluded rest = to_concluded ++ (krate.concluded ++ from_declared rest)

  abbrev from_version : List ℕ → List ℕ
  from_version rest = to_version ++ (krate.version ++ from_concluded rest)

  abbrev from_number : List ℕ → List ℕ
  from_number rest = to_number ++ (decimal number ++ from_version rest)

  pub package_rest : (rest : List ℕ) → package_before number krate [] ++ rest ≡ package_before number krate rest
  package_rest rest =
      between to_package krate.name (from_number []) rest (from_number rest)
      (between to_number (decimal number) (from_version []) rest (from_version rest)
      (between to_version krate.version (from_concluded []) rest (from_concluded rest)
      (between to_concluded krate.concluded (from_declared []) rest (from_declared rest)
      (between to_declared krate.declared (from_last []) rest (from_last rest)
      (between to_last (decimal number) (10 ∷ []) rest (10 ∷ rest) refl)))))

-- ---- writing

-- a package that is written in two parts
pub package_made : (number : ℕ) (krate : BillPackage) (old middle new : List ℕ) → middle ≡ old ++ named_before number krate [] → new ≡ middle ++ licensed_before number krate [] → new ≡ old ++ package_before number krate []
package_made number krate old middle new first second =
    let licensed : List ℕ = licensed_before number krate [] in
    let version : List ℕ → List ℕ = λ (rest : List ℕ). to_version ++ (krate.version ++ (10 ∷ rest)) in
    let name : List ℕ → List ℕ = λ (rest : List ℕ). to_number ++ (decimal number ++ version rest) in
    let both : named_before number krate [] ++ licensed ≡ package_before number krate [] =
    between to_package krate.name (name []) licensed (name licensed)
    (between to_number (decimal number) (version []) licensed (version licensed)
    (between to_version krate.version (10 ∷ []) licensed (10 ∷ licensed) refl)) in
    second
    ∙ ap (λ (text : List ℕ). text ++ licensed) first
    ∙ append_assoc old (named_before number krate []) licensed
    ∙ ap (λ (text : List ℕ). old ++ text) both

next_of : (packages : List BillPackage) (place : ℕ) (krate : BillPackage) → place < length packages → krate ≡ get_or packages place krate → drop place packages ≡ krate ∷ drop (place + 1) packages
next_of packages place krate inside is = drop_more packages place krate inside ∙ ap (λ (first : BillPackage). first ∷ drop (place + 1) packages) (sym is)

pub package_written : (packages : List BillPackage) (place : ℕ) (krate : BillPackage) (old new start : List ℕ) → place < length packages → krate ≡ get_or packages place krate → new ≡ old ++ package_before (place + 1) krate []
    → old ++ packages_from (place + 1) (drop place packages) ≡ start → new ++ packages_from (place + 1 + 1) (drop (place + 1) packages) ≡ start
package_written packages place krate old new start inside is made so_far =
    let rest : List ℕ = packages_from (place + 1 + 1) (drop (place + 1) packages) in
    ap (λ (text : List ℕ). text ++ rest) made
    ∙ append_assoc old (package_before (place + 1) krate []) rest
    ∙ ap (λ (text : List ℕ). old ++ text) (package_rest (place + 1) krate rest ∙ ap (λ (left : List BillPackage). packages_from (place + 1) left) (sym (next_of packages place krate inside is)))
    ∙ so_far
