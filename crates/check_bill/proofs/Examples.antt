-- A bill, worked out by hand from the format.
use Rattle.std.proofs.Common.{◌≡◌, refl, ℕ, true, false, List, [], ◌∷◌, ◌++◌, codes}
use Rattle.std.specs.Fmt.{digits}
use Rattle.check_bill.specs.declared.bill.Bill.{Bill}
use Rattle.check_bill.specs.declared.bill.BillPackage.{BillPackage}
use Rattle.check_bill.specs.Bills.{is_line, is_moment, is_word}
use Rattle.check_bill.specs.Lines.{lines_of}

abbrev of_mit : List ℕ → BillPackage
of_mit name = record { name = name; version = codes "1.0.0"; concluded = codes "MIT"; declared = codes "MIT" }

abbrev bill : List BillPackage → Bill
bill packages =
    record { name = codes "n"; namespace = codes "http://x"; created = codes "2024-01-02T03:04:05Z"; packages = packages }

-- seven lines are a bill
abbrev head : List ℕ
head = codes "SPDXVersion: SPDX-2.3\nDataLicense: CC0-1.0\nSPDXID: SPDXRef-DOCUMENT\nDocumentName: n\nDocumentNamespace: http://x\nCreator: Tool: cargo-deny-0.20.2\nCreated: 2024-01-02T03:04:05Z\n"

nothing : lines_of (bill []) ≡ head
nothing = refl

one : lines_of (bill (of_mit (codes "a") ∷ []))
    ≡ head ++ codes "\nPackageName: a\nSPDXID: SPDXRef-1\nPackageVersion: 1.0.0\nPackageDownloadLocation: NOASSERTION\nFilesAnalyzed: false\nPackageLicenseConcluded: MIT\nPackageLicenseDeclared: MIT\nPackageCopyrightText: NOASSERTION\nRelationship: SPDXRef-DOCUMENT DESCRIBES SPDXRef-1\n"
unfolding digits
one = refl

two : lines_of (bill (of_mit (codes "a") ∷ of_mit (codes "b") ∷ []))
    ≡ lines_of (bill (of_mit (codes "a") ∷ [])) ++ codes "\nPackageName: b\nSPDXID: SPDXRef-2\nPackageVersion: 1.0.0\nPackageDownloadLocation: NOASSERTION\nFilesAnalyzed: false\nPackageLicenseConcluded: MIT\nPackageLicenseDeclared: MIT\nPackageCopyrightText: NOASSERTION\nRelationship: SPDXRef-DOCUMENT DESCRIBES SPDXRef-2\n"
unfolding digits
two = refl

-- ---- forms

last_of_february : is_moment (codes "2024-02-31T23:59:59Z") ≡ true
last_of_february = refl

no_month : is_moment (codes "2024-00-02T03:04:05Z") ≡ false
no_month = refl

thirteenth : is_moment (codes "2024-13-02T03:04:05Z") ≡ false
thirteenth = refl

no_day : is_moment (codes "2024-01-00T03:04:05Z") ≡ false
no_day = refl

day_32 : is_moment (codes "2024-01-32T03:04:05Z") ≡ false
day_32 = refl

hour_24 : is_moment (codes "2024-01-02T24:04:05Z") ≡ false
hour_24 = refl

minute_60 : is_moment (codes "2024-01-02T03:60:05Z") ≡ false
minute_60 = refl

second_60 : is_moment (codes "2024-01-02T03:04:60Z") ≡ false
second_60 = refl

with_zone : is_moment (codes "2024-01-02T03:04:05+0") ≡ false
with_zone = refl

short_year : is_moment (codes "24-01-02T03:04:05Z") ≡ false
short_year = refl

longer : is_moment (codes "2024-01-02T03:04:05Z ") ≡ false
longer = refl

no_word : is_word [] ≡ false
no_word = refl

with_blank : is_word (codes "a b") ≡ false
with_blank = refl

beyond_ascii : is_word (195 ∷ 169 ∷ []) ≡ false
beyond_ascii = refl

ends_of_visible : is_word (33 ∷ 126 ∷ []) ≡ true
ends_of_visible = refl

no_line : is_line [] ≡ false
no_line = refl

with_lf : is_line (codes "a\nb") ≡ false
with_lf = refl

with_cr : is_line (97 ∷ 13 ∷ []) ≡ false
with_cr = refl

blank_line : is_line (codes " ") ≡ true
blank_line = refl
