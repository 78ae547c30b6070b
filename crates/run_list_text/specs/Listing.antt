-- The text of a listing, in each of its forms.
use Rattle.std.specs.Prelude.{ℕ, ◌==◌, Bool, List, [], ◌∷◌, ◌++◌, length, map, codes, decimal, Some, None}
use Rattle.std.specs.Prelude.{if◌then◌else◌}
use Rattle.std.specs.List.{flat_map}
use Rattle.serde_json.specs.Data.{Data, string, array, object, item, no_items, member, no_members}
use Rattle.serde_json.specs.View.{items_of}
use Rattle.serde_json.specs.Written.{compact_text}
use Rattle.graph_core.specs.Krate.{has_text}
use Rattle.run_request.specs.declared.output.OutputFormat.{OutputFormat}
use Rattle.run_request.specs.declared.output.OutputFormat.TheVariants.{Human, Json, Tsv}
use Rattle.run_request.specs.declared.output.Layout.{Layout}
use Rattle.run_request.specs.declared.output.Layout.TheVariants.{Crate, License}
use Rattle.run_list_text.specs.declared.listed.ListedCrate.{ListedCrate}
use Rattle.run_list_text.specs.Listed.{all_licenses, has_none, names_under}

-- ---- texts in lines and columns

-- a tab and a line feed become spaces
abbrev pub plain_byte : ℕ → ℕ
plain_byte byte = if byte == 9 then 32 else (if byte == 10 then 32 else byte)

abbrev pub plain_text : List ℕ → List ℕ
plain_text text = map plain_byte text

-- texts, each behind a text that is between
abbrev pub texts_behind : List ℕ → List (List ℕ) → List ℕ
texts_behind between texts = flat_map (λ text. between ++ plain_text text) texts

-- texts with a text between
abbrev pub joined_texts : List ℕ → List (List ℕ) → List ℕ
joined_texts between [] = []
joined_texts between (text ∷ texts) = plain_text text ++ texts_behind between texts

-- ---- lines for a person

-- `{title} ({count}): `
abbrev pub title_of : List ℕ → ℕ → List ℕ
title_of title count = plain_text title ++ (codes " (" ++ (decimal count ++ codes "): "))

-- what is under a title, with commas between
abbrev pub group_line : List ℕ → List (List ℕ) → List ℕ
group_line title texts = title_of title (length texts) ++ (joined_texts (codes ", ") texts ++ codes "\n")

-- the crates without a licence, where there are some
abbrev pub unlicensed_line : List (List ℕ) → List ℕ
unlicensed_line [] = []
unlicensed_line (name ∷ names) = group_line (codes "Unlicensed") (name ∷ names)

-- a crate and its licences
abbrev pub crate_words : List (List ℕ) → List ℕ
crate_words [] = codes "Unlicensed"
crate_words (license ∷ licenses) = joined_texts (codes ", ") (license ∷ licenses)

abbrev pub crate_line : ListedCrate → List ℕ
crate_line listed = title_of listed.name (length listed.licenses) ++ (crate_words listed.licenses ++ codes "\n")

-- a licence and its crates
abbrev pub license_line : List ListedCrate → List ℕ → List ℕ
license_line crates license = group_line license (names_under (Some license) crates)

abbrev pub human_by_crate : List ListedCrate → List ℕ
human_by_crate crates = flat_map crate_line crates

abbrev pub human_by_license : List ListedCrate → List ℕ
human_by_license crates =
    flat_map (license_line crates) (all_licenses crates) ++ unlicensed_line (names_under None crates)

-- ---- columns with tabs between

abbrev pub mark_if : Bool → List ℕ
mark_if holds = if holds then codes "\tX" else codes "\t"

-- a column for the crate's name, for each licence, and for crates without one
abbrev pub head_row : List (List ℕ) → List ℕ
head_row columns = codes "crate" ++ (texts_behind (codes "\t") columns ++ codes "\tUnlicensed\n")

abbrev pub marks : List (List ℕ) → List (List ℕ) → List ℕ
marks columns licenses = flat_map (λ column. mark_if (has_text licenses column)) columns

abbrev pub crate_row : List (List ℕ) → ListedCrate → List ℕ
crate_row columns listed =
    plain_text listed.name ++ (marks columns listed.licenses ++ (mark_if (has_none listed.licenses) ++ codes "\n"))

abbrev pub table_of : List ListedCrate → List ℕ
table_of crates = head_row (all_licenses crates) ++ flat_map (crate_row (all_licenses crates)) crates

-- ---- one value as JSON (RFC 8259)

abbrev pub texts_data : List (List ℕ) → Data
texts_data texts = array (items_of (map string texts))

abbrev pub license_data : List ListedCrate → List ℕ → Data
license_data crates license =
    array (item (string license) (item (texts_data (names_under (Some license) crates)) no_items))

abbrev pub crate_data : ListedCrate → Data
crate_data listed = object
    (member (codes "crate") (string listed.name) (member (codes "licenses") (texts_data listed.licenses) no_members))

abbrev pub data_by_crate : List ListedCrate → Data
data_by_crate crates = array (items_of (map crate_data crates))

abbrev pub data_by_license : List ListedCrate → Data
data_by_license crates =
    object (member (codes "licenses") (array (items_of (map (license_data crates) (all_licenses crates))))
    (member (codes "unlicensed") (texts_data (names_under None crates)) no_members))

abbrev pub data_of : Layout → List ListedCrate → Data
data_of Crate crates = data_by_crate crates
data_of License crates = data_by_license crates

abbrev pub json_text : Data → List ℕ
json_text value = compact_text value ++ codes "\n"

-- ---- all forms; a table is one for both layouts

abbrev pub human_lines : Layout → List ListedCrate → List ℕ
human_lines Crate crates = human_by_crate crates
human_lines License crates = human_by_license crates

abbrev pub listing_of : OutputFormat → Layout → List ListedCrate → List ℕ
listing_of Human layout crates = human_lines layout crates
listing_of Json layout crates = json_text (data_of layout crates)
listing_of Tsv layout crates = table_of crates
