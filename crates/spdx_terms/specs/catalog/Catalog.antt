-- What a catalogue knows, and what holds of every one.
use Rattle.std.specs.Prelude.{◌≡◌, ◌≤◌, ℕ, Bool, true, not, ◌&&◌, List, [], ◌∷◌, Option, IsTrue, is_some, length, take}
use Rattle.std.specs.Prelude.{drop, map, Contains}
use Rattle.std.specs.Map.{lookup}
use Rattle.std.specs.Str.{bytes_eq, str_eq_ignore_ascii_case}
use Rattle.std.specs.List.{list_all, list_any}
use Rattle.spdx_terms.specs.declared.catalog.catalog.LicenseEntry.{LicenseEntry}
use Rattle.spdx_terms.specs.catalog.Words.{is_name, is_imprecise, ends_word}

-- a catalogue as one value: licence names with what is known of each, exception names, and imprecise texts with the
-- name of the licence that each means
pub record CatalogLists : Type 0 where
  pub licenses : List (List ℕ × LicenseEntry)
  pub exceptions : List (List ℕ)
  pub imprecise : List (List ℕ × List ℕ)

-- what is known of the licence of this name
abbrev pub entry_of : List (List ℕ × LicenseEntry) → List ℕ → Option LicenseEntry
entry_of licenses name = lookup (bytes_eq name) licenses

-- an imprecise text begins a text without regard to ASCII case, and its last word ends there
pub record BeginsText (imprecise text : List ℕ) : Type 0 where
  pub letters : IsTrue (str_eq_ignore_ascii_case imprecise (take (length imprecise) text))
  pub ends : IsTrue (ends_word (drop (length imprecise) text))

-- no listed text begins a text
abbrev pub BeginsNone : List (List ℕ × List ℕ) → List ℕ → Type 0
BeginsNone listed text = (one : List ℕ × List ℕ) → Contains listed one → ¬ BeginsText one.0 text

-- the longest listed text that begins a text has this length and means this licence
pub record IsLongestImprecise (listed : List (List ℕ × List ℕ)) (text : List ℕ) (len : ℕ) (name : List ℕ) : Type 0 where
  pub imprecise : List ℕ
  pub is_listed : Contains listed (imprecise, name)
  pub begins : BeginsText imprecise text
  pub is_len : length imprecise ≡ len
  pub longest : (other : List ℕ × List ℕ) → Contains listed other → BeginsText other.0 text → length other.0 ≤ len

-- the first part of each pair: the names of licences, or the imprecise texts
abbrev pub names_of : {X : Type 0} → List (List ℕ × X) → List (List ℕ)
names_of pairs = map (λ pair. pair.0) pairs

-- none is the same as a later one
abbrev pub all_distinct : (List ℕ → List ℕ → Bool) → List (List ℕ) → Bool
all_distinct same [] = true
all_distinct same (text ∷ texts) = not (list_any (same text) texts) && all_distinct same texts

-- What holds of every catalogue. Licences and exceptions have names, each of them once. An imprecise text is made of
-- words, is there once in whatever case, and means a licence of the catalogue.
pub record IsCatalog (lists : CatalogLists) : Type 0 where
  pub license_names : IsTrue (list_all is_name (names_of lists.licenses))
  pub licenses_once : IsTrue (all_distinct bytes_eq (names_of lists.licenses))
  pub exception_names : IsTrue (list_all is_name lists.exceptions)
  pub exceptions_once : IsTrue (all_distinct bytes_eq lists.exceptions)
  pub imprecise_texts : IsTrue (list_all is_imprecise (names_of lists.imprecise))
  pub imprecise_once : IsTrue (all_distinct str_eq_ignore_ascii_case (names_of lists.imprecise))
  pub imprecise_known : IsTrue (list_all (λ pair. is_some (entry_of lists.licenses pair.1)) lists.imprecise)
