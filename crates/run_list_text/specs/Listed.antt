-- The crates of a listing: the name of each, and its licences.
use Rattle.std.specs.Prelude.{ℕ, Bool, true, false, List, [], ◌∷◌, ◌++◌, map, codes, Option, Some, None}
use Rattle.std.specs.List.{filter, flat_map, fold}
use Rattle.std.specs.Ordering.{nat_cmp}
use Rattle.std.specs.Cmp.Lexicographic.{slice_cmp}
use Rattle.std.specs.BTreeSet.{insert_key}
use Rattle.semver.specs.Identifiers.{parts_text}
use Rattle.spdx_terms.specs.declared.term.ExpressionReq.{ExpressionReq}
use Rattle.spdx_terms.specs.Terms.{req_text}
use Rattle.graph_core.specs.Krate.{CrateRecord, has_text}
use Rattle.gather_core.specs.declared.findings.license.LicenseInfo.{LicenseInfo}
use Rattle.gather_core.specs.declared.findings.license.LicenseInfo.TheVariants.{SpdxExpression, Unlicensed}
use Rattle.gather_core.specs.declared.summary.KrateLicense.{KrateLicense}
use Rattle.gather_core.specs.Gathered.{krate_of}
use Rattle.run_list_text.specs.declared.listed.ListedCrate.{ListedCrate}

-- texts in byte order, each once
abbrev pub distinct_texts : List (List ℕ) → List (List ℕ)
distinct_texts texts = fold (insert_key (slice_cmp nat_cmp)) [] texts

-- terms as they are printed: with a `+` and an exception, a reference as it was written
abbrev pub printed_terms : List ExpressionReq → List (List ℕ)
printed_terms terms = map (λ term. req_text term.req) terms

-- the distinct terms of the expression, as they are printed; none without an expression
abbrev pub licenses_of : LicenseInfo → List (List ℕ)
licenses_of (SpdxExpression expression nfo) = distinct_texts (printed_terms expression.terms)
licenses_of Unlicensed = []

-- `{name}@{version}`
abbrev pub crate_name : CrateRecord → List ℕ
crate_name krate = krate.name ++ codes "@" ++ parts_text krate.version

-- a crate of a summary, as a listing has it
abbrev pub listed_of : KrateLicense → ListedCrate
listed_of license = record { name = crate_name (krate_of license); licenses = licenses_of license.lic_info }

-- the licences of all crates, in byte order, each once
abbrev pub all_licenses : List ListedCrate → List (List ℕ)
all_licenses crates = distinct_texts (flat_map (λ listed. listed.licenses) crates)

abbrev pub has_none : List (List ℕ) → Bool
has_none [] = true
has_none (text ∷ texts) = false

-- a crate is under a licence, or under none where none is named
abbrev pub is_under : Option (List ℕ) → ListedCrate → Bool
is_under (Some license) listed = has_text listed.licenses license
is_under None listed = has_none listed.licenses

-- the names of these crates, in order
abbrev pub names_under : Option (List ℕ) → List ListedCrate → List (List ℕ)
names_under license crates = map (λ listed. listed.name) (filter (is_under license) crates)
