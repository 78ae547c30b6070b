-- What a line without a fault lists is new.
use Rattle.std.proofs.Common.{◌≡◌, ℕ, true, false, not, List, [], ◌∷◌, Some, None, refl, ap}
use Rattle.std.proofs.lemmas.Bool.{or_parts}
use Rattle.std.specs.List.{list_any}
use Rattle.std.specs.Str.{bytes_eq, str_eq_ignore_ascii_case, str_to_ascii_lowercase}
use Rattle.std.proofs.Common.{◌||◌}
use Rattle.spdx_terms.specs.catalog.Catalog.{CatalogLists, names_of}
use Rattle.spdx_terms.specs.catalog.Words.{is_name}
use Rattle.spdx_own_names.specs.File.{has_fault, is_among}
use Rattle.spdx_own_names.specs.Form.{LineForm, nothing, license, exception, imprecise, form_of}
use Rattle.spdx_own_names.specs.IndexView.{texts_lowered}
use Rattle.spdx_own_names.specs.ListsView.{IsNewIn}
use Rattle.spdx_own_names.proofs.IndexLemmas.{entry_none}

pub is_new : (names : List (List ℕ)) (lists : CatalogLists) (form : LineForm) → has_fault names lists (Some form) ≡ false → IsNewIn lists form
is_new names lists nothing is = tt
is_new names lists (license name entry) is =
    entry_none lists.licenses name (or_parts (not (is_name name)) (is_among name (names_of lists.licenses)) is).1
is_new names lists (exception name) is = tt
is_new names lists (imprecise text name) is = tt

pub no_form : (names : List (List ℕ)) (lists : CatalogLists) (line : List ℕ) → form_of line ≡ None → has_fault names lists (form_of line) ≡ true
no_form names lists line is = ap (has_fault names lists) is

-- a text among texts, in lower case
pub lowered_among : (text : List ℕ) (pairs : List (List ℕ × List ℕ)) → is_among (str_to_ascii_lowercase text) (texts_lowered pairs) ≡ list_any (str_eq_ignore_ascii_case text) (names_of pairs)
lowered_among text [] = refl
lowered_among text (pair ∷ pairs) = ap (λ b. bytes_eq (str_to_ascii_lowercase text) (str_to_ascii_lowercase pair.0) || b) (lowered_among text pairs)
