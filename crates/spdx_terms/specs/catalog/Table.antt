-- The catalogue `Table`: its licences, exceptions and imprecise texts, in three written lists.
use Rattle.std.specs.Prelude.{ℕ, ◌+◌, List, [], ◌∷◌, ◌++◌, codes, true, false, refl, map}
use Rattle.std.specs.List.{flat_map}
use Rattle.spdx_terms.specs.declared.catalog.catalog.LicenseEntry.{LicenseEntry}
use Rattle.spdx_terms.specs.catalog.Catalog.{CatalogLists, IsCatalog}

-- the licences that are each a family of their own, in the order of their families' numbers, which begin at 0
unfoldable pub single_names : List (List ℕ)
single_names =
    codes "0BSD" ∷ codes "BlueOak-1.0.0" ∷ codes "BSD-1-Clause" ∷ codes "BSD-2-Clause" ∷
    codes "BSD-2-Clause-Patent" ∷ codes "BSD-3-Clause" ∷ codes "BSD-3-Clause-Clear" ∷
    codes "BSD-4-Clause" ∷ codes "BSL-1.0" ∷ codes "BUSL-1.1" ∷ codes "bzip2-1.0.6" ∷ codes "CC0-1.0" ∷
    codes "CDLA-Permissive-2.0" ∷ codes "curl" ∷ codes "FTL" ∷ codes "HPND" ∷ codes "ICU" ∷
    codes "IJG" ∷ codes "ISC" ∷ codes "MIT" ∷ codes "MIT-0" ∷ codes "MPL-2.0-no-copyleft-exception" ∷
    codes "MulanPSL-2.0" ∷ codes "NCSA" ∷ codes "OpenSSL" ∷ codes "Pixar" ∷ codes "PostgreSQL" ∷
    codes "PSF-2.0" ∷ codes "Python-2.0" ∷ codes "Ruby" ∷ codes "Unicode-3.0" ∷
    codes "Unicode-DFS-2016" ∷ codes "Unlicense" ∷ codes "UPL-1.0" ∷ codes "Vim" ∷ codes "W3C" ∷
    codes "WTFPL" ∷ codes "X11" ∷ codes "Zlib" ∷ codes "zlib-acknowledgement" ∷ []

-- what is known of a licence without marks
abbrev pub plain_entry : ℕ → ℕ → LicenseEntry
plain_entry family rank = record { family = family; rank = rank; later = false; deprecated = false; gnu = false }

-- each name with what is known of it: the families are numbered on, and each name has rank 10
abbrev pub families_from : ℕ → List (List ℕ) → List (List ℕ × LicenseEntry)
families_from family [] = []
families_from family (name ∷ names) = (name, plain_entry family 10) ∷ families_from (family + 1) names

-- a family's names, each with its rank
abbrev pub family : ℕ → List (List ℕ × ℕ) → List (List ℕ × LicenseEntry)
family number versions = map (λ version. (version.0, plain_entry number version.1)) versions

-- the families of two or three versions, one a line
unfoldable pub families : List (List ℕ × LicenseEntry)
families =
    family 40 ((codes "Apache-1.0", 10) ∷ (codes "Apache-1.1", 11) ∷ (codes "Apache-2.0", 20) ∷ [])
    ++ family 41 ((codes "Artistic-1.0", 10) ∷ (codes "Artistic-2.0", 20) ∷ [])
    ++ family 42 ((codes "CC-BY-3.0", 30) ∷ (codes "CC-BY-4.0", 40) ∷ [])
    ++ family 43 ((codes "CC-BY-SA-3.0", 30) ∷ (codes "CC-BY-SA-4.0", 40) ∷ [])
    ++ family 44 ((codes "CDDL-1.0", 10) ∷ (codes "CDDL-1.1", 11) ∷ [])
    ++ family 45 ((codes "EPL-1.0", 10) ∷ (codes "EPL-2.0", 20) ∷ [])
    ++ family 46 ((codes "EUPL-1.1", 11) ∷ (codes "EUPL-1.2", 12) ∷ [])
    ++ family 47 ((codes "MPL-1.0", 10) ∷ (codes "MPL-1.1", 11) ∷ (codes "MPL-2.0", 20) ∷ [])
    ++ family 48 ((codes "OFL-1.0", 10) ∷ (codes "OFL-1.1", 11) ∷ [])

-- what a name of a GNU family stands for: itself, which is deprecated, the name with `-only` and that with `-or-later`
abbrev pub gnu_names : ℕ → List ℕ × ℕ → List (List ℕ × LicenseEntry)
gnu_names family (name, rank) =
    (name, record { family = family; rank = rank; later = false; deprecated = true; gnu = true })
    ∷ (name ++ codes "-only", record { family = family; rank = rank; later = false; deprecated = false; gnu = true })
    ∷ (name ++ codes "-or-later", record { family = family; rank = rank; later = true; deprecated = false; gnu = true })
    ∷ []

-- a GNU family's names, each with its rank
abbrev pub gnu_family : ℕ → List (List ℕ × ℕ) → List (List ℕ × LicenseEntry)
gnu_family number versions = flat_map (gnu_names number) versions

-- the GNU families, one a line
unfoldable pub gnu_families : List (List ℕ × LicenseEntry)
gnu_families =
    gnu_family 49 ((codes "AGPL-3.0", 30) ∷ [])
    ++ gnu_family 50 ((codes "GFDL-1.3", 13) ∷ [])
    ++ gnu_family 51 ((codes "GPL-1.0", 10) ∷ (codes "GPL-2.0", 20) ∷ (codes "GPL-3.0", 30) ∷ [])
    ++ gnu_family 52 ((codes "LGPL-2.0", 20) ∷ (codes "LGPL-2.1", 21) ∷ (codes "LGPL-3.0", 30) ∷ [])

unfoldable pub table_exceptions : List (List ℕ)
table_exceptions =
    codes "Autoconf-exception-3.0" ∷ codes "Bison-exception-2.2" ∷ codes "Classpath-exception-2.0" ∷
    codes "Font-exception-2.0" ∷ codes "GCC-exception-3.1" ∷ codes "Linux-syscall-note" ∷
    codes "LLVM-exception" ∷ codes "OCaml-LGPL-linking-exception" ∷ codes "openvpn-openssl-exception" ∷
    codes "Swift-exception" ∷ []

-- texts that mean one licence
abbrev pub texts_for : List ℕ → List (List ℕ) → List (List ℕ × List ℕ)
texts_for name texts = map (λ text. (text, name)) texts

-- the imprecise texts, by the licence that they mean
unfoldable pub table_imprecise : List (List ℕ × List ℕ)
table_imprecise =
    texts_for (codes "Apache-2.0") (codes "apache" ∷ codes "apache2" ∷ codes "apache 2" ∷ codes "apache 2.0"
    ∷ codes "apache-2" ∷ codes "apache-2.0" ∷ codes "apache license" ∷ codes "apache license 2.0" ∷ [])
    ++ texts_for (codes "BSD-2-Clause") (codes "bsd 2-clause" ∷ codes "bsd-2" ∷ codes "simplified bsd" ∷ [])
    ++ texts_for (codes "BSD-3-Clause") (codes "bsd 3-clause" ∷ codes "bsd-3" ∷ codes "new bsd" ∷ [])
    ++ texts_for (codes "BSL-1.0") (codes "boost" ∷ [])
    ++ texts_for (codes "CC0-1.0") (codes "cc0" ∷ [])
    ++ texts_for (codes "GPL-2.0-only") (codes "gplv2" ∷ codes "gpl v2" ∷ codes "gpl-2" ∷ [])
    ++ texts_for (codes "GPL-3.0-only") (codes "gplv3" ∷ codes "gpl v3" ∷ codes "gpl-3" ∷ [])
    ++ texts_for (codes "LGPL-3.0-only") (codes "lgplv3" ∷ codes "lgpl v3" ∷ [])
    ++ texts_for (codes "ISC") (codes "isc license" ∷ [])
    ++ texts_for (codes "MIT") (codes "mit" ∷ codes "mit license" ∷ codes "the mit license" ∷ [])
    ++ texts_for (codes "MPL-2.0") (codes "mpl" ∷ codes "mpl 2.0" ∷ codes "mpl-2" ∷ codes "mpl-2.0" ∷ [])
    ++ texts_for (codes "Zlib") (codes "zlib license" ∷ [])

abbrev pub table_licenses : List (List ℕ × LicenseEntry)
table_licenses = families_from 0 single_names ++ families ++ gnu_families

-- the table as a catalogue
abbrev pub table_lists : CatalogLists
table_lists = record { licenses = table_licenses; exceptions = table_exceptions; imprecise = table_imprecise }

pub table_is_catalog : IsCatalog table_lists
unfolding single_names families gnu_families table_exceptions table_imprecise
table_is_catalog = record {
  license_names = refl;
  licenses_once = refl;
  exception_names = refl;
  exceptions_once = refl;
  imprecise_texts = refl;
  imprecise_once = refl;
  imprecise_known = refl;
}
