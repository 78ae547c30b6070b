-- The order in which the table's licences are looked up by their names.
use Rattle.std.specs.Prelude.{ℕ, List, length, map}
use Rattle.std.specs.List.Sorted.{IsStrictlySortedBy}
use Rattle.std.specs.Ordering.{on, then_cmp, nat_cmp}
use Rattle.std.specs.Cmp.Lexicographic.{slice_cmp}
use Rattle.std.specs.declared.cmp.Ordering.{Ordering}
use Rattle.spdx_terms.specs.declared.catalog.catalog.LicenseEntry.{LicenseEntry}
use Rattle.spdx_terms.specs.declared.catalog.table.TableLicense.{TableLicense}
use Rattle.spdx_terms.specs.catalog.Catalog.{names_of}

-- a shorter name is before a longer one, and those of one length are in byte order
abbrev pub name_order : List ℕ → List ℕ → Ordering
name_order = then_cmp (on length nat_cmp) (slice_cmp nat_cmp)

-- each licence is before those with later names
abbrev pub AreInOrder : List (List ℕ × LicenseEntry) → Type 0
AreInOrder licenses = IsStrictlySortedBy name_order (names_of licenses)

-- licences as a catalogue has them: each name with what is known of it
abbrev pub named_entries : List TableLicense → List (List ℕ × LicenseEntry)
named_entries licenses = map (λ listed. (listed.name.now, listed.entry)) licenses
