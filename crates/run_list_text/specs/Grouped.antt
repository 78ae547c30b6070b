-- The names of the crates under each licence, gathered crate by crate: for private clauses.
use Rattle.std.specs.Prelude.{ℕ, List, [], ◌∷◌, ◌++◌, map, Some}
use Rattle.std.specs.List.{fold}
use Rattle.std.specs.Option.{unwrap_or}
use Rattle.std.specs.FinMap.{find, put}
use Rattle.std.specs.Ordering.{nat_cmp}
use Rattle.std.specs.Cmp.Lexicographic.{slice_cmp}
use Rattle.serde_json.specs.Data.{Data, string, array, item, no_items}
use Rattle.run_list_text.specs.declared.grouped.LicenseNames.{LicenseNames}
use Rattle.run_list_text.specs.declared.listed.ListedCrate.{ListedCrate}
use Rattle.run_list_text.specs.Listed.{all_licenses, names_under}
use Rattle.run_list_text.specs.Listing.{group_line, texts_data}

-- the names at a licence; none where no entry is its
abbrev pub names_at : List (List ℕ × List (List ℕ)) → List ℕ → List (List ℕ)
names_at entries license = unwrap_or (find (slice_cmp nat_cmp) license entries) []

-- a further name at a licence
abbrev pub with_name : List ℕ → List (List ℕ × List (List ℕ)) → List ℕ → List (List ℕ × List (List ℕ))
with_name name entries license = put (slice_cmp nat_cmp) license (names_at entries license ++ name ∷ []) entries

-- the name of a crate at each of its licences
abbrev pub with_crate : List (List ℕ × List (List ℕ)) → ListedCrate → List (List ℕ × List (List ℕ))
with_crate entries listed = fold (with_name listed.name) entries listed.licenses

-- the names of all crates, one crate after another
abbrev pub gathered_names : List ListedCrate → List (List ℕ × List (List ℕ))
gathered_names crates = fold with_crate [] crates

-- all licences in order, each with the names of its crates
abbrev pub names_by_license : List ListedCrate → List (List ℕ × List (List ℕ))
names_by_license crates = map (λ license. (license, names_under (Some license) crates)) (all_licenses crates)

-- what is written of such an entry
abbrev pub entry_line : List ℕ × List (List ℕ) → List ℕ
entry_line entry = group_line entry.0 entry.1

abbrev pub entry_data : List ℕ × List (List ℕ) → Data
entry_data entry = array (item (string entry.0) (item (texts_data entry.1) no_items))

abbrev pub entry_of : LicenseNames → List ℕ × List (List ℕ)
entry_of group = (group.license, group.names)
