-- What a file without a fault defines is a catalogue.
use Rattle.std.proofs.Common.{◌≡◌, ℕ, ◌+◌, Bool, true, false, not, cond, ◌&&◌, ◌||◌, List, [], ◌∷◌, ◌++◌, append_assoc, append-nil, length, Option, Some, None, is_some, IsTrue, refl, sym, ap, subst, ◌∙◌}
use Rattle.std.specs.List.{list_all, list_any}
use Rattle.std.specs.Str.{is_utf8, bytes_eq, str_eq_ignore_ascii_case, str_to_ascii_lowercase}
use Rattle.std.specs.Str.Lossy.{utf8_valid_len}
use Rattle.std.proofs.lemmas.List.Folds.{list_all-append, list_any-append}
use Rattle.std.proofs.lemmas.Slice.Eq.{bytes_eq-Decides}
use Rattle.std.proofs.lemmas.Bool.{or_parts, and_parts, and_from, not-true, not-false, not_from_false}
use Rattle.spdx_terms.specs.declared.catalog.catalog.LicenseEntry.{LicenseEntry}
use Rattle.spdx_terms.specs.catalog.Catalog.{CatalogLists, IsCatalog, all_distinct, entry_of, names_of}
use Rattle.spdx_terms.specs.catalog.TextWords.{has_some}
use Rattle.spdx_terms.specs.catalog.Words.{is_name, is_imprecise}
use Rattle.spdx_own_names.specs.File.{FilesAreCatalogs, fault_behind, fault_in, first_fault, has_fault, is_among, line_at, lines_of, lists_of, names_in, unless_fault}
use Rattle.spdx_own_names.specs.Form.{LineForm, nothing, license, exception, imprecise, form_of}
use Rattle.spdx_own_names.specs.ListsView.{no_lists, with_form}
use Rattle.spdx_own_names.proofs.IndexLemmas.{is_some-entry}
use Rattle.spdx_own_names.proofs.ListsLemmas.{lists_of-nil, lists_of-push}

-- as IsCatalog, but that an imprecise text means one of these names
record IsSound (names : List (List ℕ)) (lists : CatalogLists) : Type 0 where
  license_names : IsTrue (list_all is_name (names_of lists.licenses))
  licenses_once : IsTrue (all_distinct bytes_eq (names_of lists.licenses))
  exception_names : IsTrue (list_all is_name lists.exceptions)
  exceptions_once : IsTrue (all_distinct bytes_eq lists.exceptions)
  imprecise_texts : IsTrue (list_all is_imprecise (names_of lists.imprecise))
  imprecise_once : IsTrue (all_distinct str_eq_ignore_ascii_case (names_of lists.imprecise))
  imprecise_known : IsTrue (list_all (λ (pair : List ℕ × List ℕ). is_among pair.1 names) lists.imprecise)

-- ---- one item more

names_of-push : {X : Type 0} (pairs : List (List ℕ × X)) (pair : List ℕ × X) → names_of (pairs ++ pair ∷ []) ≡ names_of pairs ++ pair.0 ∷ []
names_of-push [] pair = refl
names_of-push (first ∷ pairs) pair = ap (λ names. first.0 ∷ names) (names_of-push pairs pair)

all-push : {X : Type 0} (p : X → Bool) (xs : List X) (x : X) → IsTrue (list_all p xs) → p x ≡ true → IsTrue (list_all p (xs ++ x ∷ []))
all-push p xs x all one = list_all-append p xs (x ∷ []) ∙ and_from (list_all p xs) (p x && true) all (and_from (p x) true one refl)

any-push : (p : List ℕ → Bool) (xs : List (List ℕ)) (x : List ℕ) → list_any p xs ≡ false → p x ≡ false → list_any p (xs ++ x ∷ []) ≡ false
any-push p xs x none one = list_any-append p xs (x ∷ []) ∙ ap (λ b. b || (p x || false)) none ∙ ap (λ b. b || false) one

module _ (same : List ℕ → List ℕ → Bool) (swapped : (a b : List ℕ) → same a b ≡ same b a) where
  distinct-push : (xs : List (List ℕ)) (x : List ℕ) → IsTrue (all_distinct same xs) → list_any (same x) xs ≡ false → IsTrue (all_distinct same (xs ++ x ∷ []))
  distinct-push [] x once none = refl
  distinct-push (y ∷ xs) x once none =
      let apart = or_parts (same x y) (list_any (same x) xs) none in
      let parts = and_parts (not (list_any (same y) xs)) (all_distinct same xs) once in
      and_from (not (list_any (same y) (xs ++ x ∷ []))) (all_distinct same (xs ++ x ∷ []))
      (not_from_false (list_any (same y) (xs ++ x ∷ [])) (any-push (same y) xs x (not-true (list_any (same y) xs) parts.0) (swapped y x ∙ apart.0)))
      (distinct-push xs x parts.1 apart.1)

bytes_swapped : (a b : List ℕ) → bytes_eq a b ≡ bytes_eq b a
bytes_swapped a b = by (bytes_eq a b) (bytes_eq b a) (bytes_eq-Decides a b) (bytes_eq-Decides b a)
  where
    by : (r s : Bool) → (r ≡ true → a ≡ b) × (a ≡ b → r ≡ true) → (s ≡ true → b ≡ a) × (b ≡ a → s ≡ true) → r ≡ s
    by true true p q = refl
    by true false p q = sym (q.1 (sym (p.0 refl)))
    by false true p q = p.1 (sym (q.0 refl))
    by false false p q = refl

-- ---- one line more

no_faults : (names : List (List ℕ)) → IsSound names no_lists
no_faults names = record {
  license_names = refl;
  licenses_once = refl;
  exception_names = refl;
  exceptions_once = refl;
  imprecise_texts = refl;
  imprecise_once = refl;
  imprecise_known = refl;
}

sound_with : (names : List (List ℕ)) (lists : CatalogLists) (form : Option LineForm) → has_fault names lists form ≡ false → IsSound names lists → IsSound names (with_form lists form)
sound_with names lists None is sound = sound
sound_with names lists (Some nothing) is sound = sound
sound_with names lists (Some (license name entry)) is sound =
    let parts = or_parts (not (is_name name)) (is_among name (names_of lists.licenses)) is in
    let pushed = names_of-push lists.licenses (name, entry) in record {
      license_names = ap (list_all is_name) pushed ∙ all-push is_name (names_of lists.licenses) name sound.license_names (not-false (is_name name) parts.0);
      licenses_once = ap (all_distinct bytes_eq) pushed ∙ distinct-push bytes_eq bytes_swapped (names_of lists.licenses) name sound.licenses_once parts.1;
      exception_names = sound.exception_names;
      exceptions_once = sound.exceptions_once;
      imprecise_texts = sound.imprecise_texts;
      imprecise_once = sound.imprecise_once;
      imprecise_known = sound.imprecise_known;
    }
sound_with names lists (Some (exception name)) is sound =
    let parts = or_parts (not (is_name name)) (is_among name lists.exceptions) is in record {
      license_names = sound.license_names;
      licenses_once = sound.licenses_once;
      exception_names = all-push is_name lists.exceptions name sound.exception_names (not-false (is_name name) parts.0);
      exceptions_once = distinct-push bytes_eq bytes_swapped lists.exceptions name sound.exceptions_once parts.1;
      imprecise_texts = sound.imprecise_texts;
      imprecise_once = sound.imprecise_once;
      imprecise_known = sound.imprecise_known;
    }
sound_with names lists (Some (imprecise text name)) is sound =
    let outer = or_parts (not (is_name name && is_imprecise text) || list_any (str_eq_ignore_ascii_case text) (names_of lists.imprecise)) (not (is_among name names)) is in
    let inner = or_parts (not (is_name name && is_imprecise text)) (list_any (str_eq_ignore_ascii_case text) (names_of lists.imprecise)) outer.0 in
    let both = and_parts (is_name name) (is_imprecise text) (not-false (is_name name && is_imprecise text) inner.0) in
    let pushed = names_of-push lists.imprecise (text, name) in record {
      license_names = sound.license_names;
      licenses_once = sound.licenses_once;
      exception_names = sound.exception_names;
      exceptions_once = sound.exceptions_once;
      imprecise_texts = ap (list_all is_imprecise) pushed ∙ all-push is_imprecise (names_of lists.imprecise) text sound.imprecise_texts both.1;
      imprecise_once = ap (all_distinct str_eq_ignore_ascii_case) pushed
          ∙ distinct-push str_eq_ignore_ascii_case (λ a b. bytes_swapped (str_to_ascii_lowercase a) (str_to_ascii_lowercase b)) (names_of lists.imprecise) text sound.imprecise_once inner.1;
      imprecise_known = all-push (λ (pair : List ℕ × List ℕ). is_among pair.1 names) lists.imprecise (text, name) sound.imprecise_known (not-false (is_among name names) outer.1);
    }

-- ---- all lines

no_fault_here : (b : Bool) (n : ℕ) (rest : Option ℕ) → cond b (Some n) rest ≡ None → (b ≡ false) × (rest ≡ None)
no_fault_here true n rest is = absurd (cc)
no_fault_here false n rest is = (refl, is)

-- a last line without a fault is empty, and says nothing
nothing_last : (bytes : List ℕ) (n : ℕ) → cond (has_some bytes) (Some n) None ≡ None → form_of bytes ≡ Some nothing
unfolding form_of
nothing_last [] n is = refl
nothing_last (byte ∷ bytes) n is = absurd (cc)

all_sound : (names before lines : List (List ℕ)) → fault_behind names before lines ≡ None → IsSound names (lists_of before) → IsSound names (lists_of (before ++ lines))
all_sound names before [] is sound = subst (λ (those : List (List ℕ)). IsSound names (lists_of those)) (sym (append-nil before)) sound
all_sound names before (last ∷ []) is sound =
    subst (IsSound names) (sym (lists_of-push before last ∙ ap (with_form (lists_of before)) (nothing_last last (length before + 1) is))) sound
all_sound names before (line ∷ next ∷ lines) is sound =
    let here = no_fault_here (has_fault names (lists_of before) (form_of line)) (length before + 1) (fault_behind names (before ++ line ∷ []) (next ∷ lines)) is in
    let more = subst (IsSound names) (sym (lists_of-push before line)) (sound_with names (lists_of before) (form_of line) here.0 sound) in
    subst (λ (those : List (List ℕ)). IsSound names (lists_of those)) (append_assoc before (line ∷ []) (next ∷ lines)) (all_sound names (before ++ line ∷ []) (next ∷ lines) here.1 more)

-- ---- the bytes

known_all : (licenses : List (List ℕ × LicenseEntry)) (pairs : List (List ℕ × List ℕ)) → list_all (λ (pair : List ℕ × List ℕ). is_among pair.1 (names_of licenses)) pairs ≡ list_all (λ (pair : List ℕ × List ℕ). is_some (entry_of licenses pair.1)) pairs
known_all licenses [] = refl
known_all licenses (pair ∷ pairs) =
    ap (λ b. b && list_all (λ (pair : List ℕ × List ℕ). is_among pair.1 (names_of licenses)) pairs) (sym (is_some-entry licenses pair.1))
    ∙ ap (λ b. is_some (entry_of licenses pair.1) && b) (known_all licenses pairs)

pub lines_are_catalog : (lines : List (List ℕ)) → fault_in lines ≡ None → IsCatalog (lists_of lines)
lines_are_catalog lines none =
    let sound = all_sound (names_in lines) [] lines none (subst (IsSound (names_in lines)) (sym lists_of-nil) (no_faults (names_in lines))) in record {
      license_names = sound.license_names;
      licenses_once = sound.licenses_once;
      exception_names = sound.exception_names;
      exceptions_once = sound.exceptions_once;
      imprecise_texts = sound.imprecise_texts;
      imprecise_once = sound.imprecise_once;
      imprecise_known = sym (known_all (lists_of lines).licenses (lists_of lines).imprecise) ∙ sound.imprecise_known;
    }

text_fault : (bytes : List ℕ) (utf8 : Bool) → is_utf8 bytes ≡ utf8 → cond utf8 (fault_in (lines_of bytes)) (Some (line_at bytes (utf8_valid_len bytes))) ≡ None → fault_in (lines_of bytes) ≡ None
text_fault bytes true e is = is
text_fault bytes false e is = absurd (cc)

no_fault : (bytes : List ℕ) → first_fault bytes ≡ None → fault_in (lines_of bytes) ≡ None
unfolding first_fault
no_fault bytes is = text_fault bytes (is_utf8 bytes) refl is

by_fault : (bytes : List ℕ) (lists : CatalogLists) (fault : Option ℕ) → first_fault bytes ≡ fault → unless_fault fault (lists_of (lines_of bytes)) ≡ Some lists → IsCatalog lists
by_fault bytes lists None none is =
    let same : lists_of (lines_of bytes) ≡ lists = cc in
    subst IsCatalog same (lines_are_catalog (lines_of bytes) (no_fault bytes none))
by_fault bytes lists (Some line) some is = absurd (cc)

pub files_are_catalogs : FilesAreCatalogs
files_are_catalogs bytes lists is = by_fault bytes lists (first_fault bytes) refl is
