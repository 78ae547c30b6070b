-- The bytes of a catalogue file: their first fault, or the catalogue that they define.
use Rattle.std.specs.Prelude.{◌≡◌, ℕ, ◌+◌, Bool, true, false, not, ◌&&◌, ◌||◌, List, [], ◌∷◌, ◌++◌, length, take}
use Rattle.std.specs.Prelude.{count_by, Option, Some, None, if◌then◌else◌}
use Rattle.std.specs.List.{list_any, slice_split, filter_map}
use Rattle.std.specs.Str.{is_utf8, bytes_eq, str_eq_ignore_ascii_case}
use Rattle.std.specs.Str.Lossy.{utf8_valid_len}
use Rattle.spdx_terms.specs.declared.catalog.catalog.LicenseEntry.{LicenseEntry}
use Rattle.spdx_terms.specs.catalog.Catalog.{CatalogLists, IsCatalog, names_of}
use Rattle.spdx_terms.specs.catalog.TextWords.{is_line_end, has_some}
use Rattle.spdx_terms.specs.catalog.Words.{is_name, is_imprecise}
use Rattle.spdx_own_names.specs.declared.error.ListingError.{ListingError}
use Rattle.spdx_own_names.specs.declared.error.ListingError.TheVariants.{Syntax, Memory}
use Rattle.spdx_own_names.specs.Form.{LineForm, nothing, license, exception, imprecise, form_of}

-- the lines, and what follows the last line feed
abbrev pub lines_of : List ℕ → List (List ℕ)
lines_of text = slice_split is_line_end text

-- ---- what lines list

abbrev pub license_in : Option LineForm → Option (List ℕ × LicenseEntry)
license_in None = None
license_in (Some nothing) = None
license_in (Some (license name entry)) = Some (name, entry)
license_in (Some (exception name)) = None
license_in (Some (imprecise text name)) = None

abbrev pub exception_in : Option LineForm → Option (List ℕ)
exception_in None = None
exception_in (Some nothing) = None
exception_in (Some (license name entry)) = None
exception_in (Some (exception name)) = Some name
exception_in (Some (imprecise text name)) = None

abbrev pub imprecise_in : Option LineForm → Option (List ℕ × List ℕ)
imprecise_in None = None
imprecise_in (Some nothing) = None
imprecise_in (Some (license name entry)) = None
imprecise_in (Some (exception name)) = None
imprecise_in (Some (imprecise text name)) = Some (text, name)

-- the licences, exceptions and imprecise texts of these lines, in order
unfoldable pub lists_of : List (List ℕ) → CatalogLists
lists_of lines = record {
  licenses = filter_map (λ line. license_in (form_of line)) lines;
  exceptions = filter_map (λ line. exception_in (form_of line)) lines;
  imprecise = filter_map (λ line. imprecise_in (form_of line)) lines;
}

-- the names of their licences
abbrev pub names_in : List (List ℕ) → List (List ℕ)
names_in lines = names_of (lists_of lines).licenses

-- ---- faults

abbrev pub is_among : List ℕ → List (List ℕ) → Bool
is_among name names = list_any (bytes_eq name) names

-- Whether a line has a fault, in a file whose licences have these names, behind lines that list this: it has none of
-- the forms; what should be a name or an imprecise text can be none; it repeats a name of its kind, or an imprecise
-- text in whatever case; or an imprecise text means no licence of the file.
abbrev pub has_fault : List (List ℕ) → CatalogLists → Option LineForm → Bool
has_fault names before None = true
has_fault names before (Some nothing) = false
has_fault names before (Some (license name entry)) = not (is_name name) || is_among name (names_of before.licenses)
has_fault names before (Some (exception name)) = not (is_name name) || is_among name before.exceptions
has_fault names before (Some (imprecise text name)) =
    not (is_name name && is_imprecise text) || list_any (str_eq_ignore_ascii_case text) (names_of before.imprecise)
    || not (is_among name names)

-- The number, from 1, of the first line with a fault, behind these lines. What follows the last line feed is a line
-- without an end, if it is anything.
abbrev pub fault_behind : List (List ℕ) → List (List ℕ) → List (List ℕ) → Option ℕ
fault_behind names before [] = None
fault_behind names before (last ∷ []) = if has_some last then Some (length before + 1) else None
fault_behind names before (line ∷ next ∷ lines) =
    if has_fault names (lists_of before) (form_of line) then Some (length before + 1)
    else fault_behind names (before ++ line ∷ []) (next ∷ lines)

abbrev pub fault_in : List (List ℕ) → Option ℕ
fault_in lines = fault_behind (names_in lines) [] lines

-- the number, from 1, of the line in which a place is
abbrev pub line_at : List ℕ → ℕ → ℕ
line_at bytes place = count_by is_line_end (take place bytes) + 1

-- the number of the first line with a fault; where the bytes are no UTF-8, that of the line with the first bad byte
unfoldable pub first_fault : List ℕ → Option ℕ
first_fault bytes = if is_utf8 bytes then fault_in (lines_of bytes) else Some (line_at bytes (utf8_valid_len bytes))

-- ---- the catalogue

abbrev pub unless_fault : Option ℕ → CatalogLists → Option CatalogLists
unless_fault None lists = Some lists
unless_fault (Some line) lists = None

-- the catalogue that a file without a fault defines
abbrev pub catalog_of : List ℕ → Option CatalogLists
catalog_of bytes = unless_fault (first_fault bytes) (lists_of (lines_of bytes))

-- what a file defines is a catalogue
abbrev pub FilesAreCatalogs : Type 0
FilesAreCatalogs = (bytes : List ℕ) (lists : CatalogLists) → catalog_of bytes ≡ Some lists → IsCatalog lists

-- a refusal tells the first fault, or that memory was wanting
abbrev pub TellsFault : Option ℕ → ListingError → Type 0
TellsFault fault (Syntax line) = fault ≡ Some line
TellsFault fault Memory = Unit {0}

-- a refusal tells that the line behind so many has a fault, or that memory was wanting
abbrev pub TellsLine : Bool → ℕ → ListingError → Type 0
TellsLine fault before (Syntax line) = (fault ≡ true) × (line ≡ before + 1)
TellsLine fault before Memory = Unit {0}
