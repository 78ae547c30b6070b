-- What the lines of a catalogue's file list, as the values of the code stand for it.
use Rattle.std.specs.Prelude.{◌≡◌, ℕ, List, [], ◌∷◌, ◌++◌, Option, Some, None}
use Rattle.spdx_terms.specs.declared.catalog.catalog.LicenseEntry.{LicenseEntry}
use Rattle.spdx_terms.specs.catalog.Catalog.{CatalogLists, entry_of}
use Rattle.spdx_own_names.specs.Form.{LineForm, nothing, license, exception, imprecise}
use Rattle.spdx_own_names.specs.declared.lists.Lists.{Lists}

abbrev pub lists_from : List (List ℕ × LicenseEntry) → List (List ℕ) → List (List ℕ × List ℕ) → CatalogLists
lists_from licenses exceptions texts = record { licenses = licenses; exceptions = exceptions; imprecise = texts }

abbrev pub lists_view : Lists → CatalogLists
lists_view lists = lists_from lists.licenses lists.exceptions lists.meanings

abbrev pub no_lists : CatalogLists
no_lists = record { licenses = []; exceptions = []; imprecise = [] }

-- the lists and what a line with this form lists
abbrev pub with_form : CatalogLists → Option LineForm → CatalogLists
with_form lists None = lists
with_form lists (Some nothing) = lists
with_form lists (Some (license name entry)) =
    record {
      licenses = lists.licenses ++ (name, entry) ∷ [];
      exceptions = lists.exceptions;
      imprecise = lists.imprecise;
    }
with_form lists (Some (exception name)) =
    record { licenses = lists.licenses; exceptions = lists.exceptions ++ name ∷ []; imprecise = lists.imprecise }
with_form lists (Some (imprecise text name)) =
    record {
      licenses = lists.licenses;
      exceptions = lists.exceptions;
      imprecise = lists.imprecise ++ (text, name) ∷ [];
    }

-- a licence with this form is none of them
abbrev pub IsNewIn : CatalogLists → LineForm → Type 0
IsNewIn lists nothing = Unit {0}
IsNewIn lists (license name entry) = entry_of lists.licenses name ≡ None
IsNewIn lists (exception name) = Unit {0}
IsNewIn lists (imprecise text name) = Unit {0}
