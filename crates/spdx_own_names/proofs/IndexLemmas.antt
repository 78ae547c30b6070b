-- Look-ups in maps beside lists, and one more item in both.
use Rattle.std.proofs.Common.{◌≡◌, ℕ, Bool, true, false, cond, ◌||◌, List, [], ◌∷◌, ◌++◌, Option, Some, None, is_some, Bor, option_copied, refl, sym, ap, ◌∙◌}
use Rattle.std.specs.FinMap.{get, insert, empty, get-empty, get-insert}
use Rattle.std.specs.Cmp.Lexicographic.{slice_cmp, nat_list_cmp_total}
use Rattle.std.specs.Ordering.{nat_cmp}
use Rattle.std.specs.Str.{bytes_eq, str_to_ascii_lowercase}
use Rattle.std.proofs.lemmas.List.Folds.{list_any-append}
use Rattle.std.proofs.lemmas.Map.Text.{is_eq-slice_cmp}
use Rattle.std.proofs.lemmas.Slice.Eq.{bytes_eq-Decides}
use Rattle.deny_text.specs.TextMap.{TextMapTo}
use Rattle.spdx_terms.specs.declared.catalog.catalog.LicenseEntry.{LicenseEntry}
use Rattle.spdx_terms.specs.catalog.Catalog.{entry_of, names_of}
use Rattle.spdx_own_names.specs.File.{is_among}
use Rattle.spdx_own_names.specs.Index.{HasEntries, HasNames}
use Rattle.spdx_own_names.specs.IndexView.{entries_listed, meanings_listed, texts_lowered}
use Rattle.spdx_own_names.specs.declared.entries.NamedEntry.{NamedEntry}
use Rattle.spdx_own_names.specs.declared.meanings.Meaning.{Meaning}

or_false : (b : Bool) → (b || false) ≡ b
or_false true = refl
or_false false = refl

or_swapped : (a b : Bool) → (a || b) ≡ (b || a)
or_swapped true true = refl
or_swapped true false = refl
or_swapped false true = refl
or_swapped false false = refl

-- ---- names

-- a name among names and one more
pub among-push : (q : List ℕ) (names : List (List ℕ)) (name : List ℕ) → is_among q (names ++ name ∷ []) ≡ (bytes_eq q name || is_among q names)
among-push q names name =
    list_any-append (bytes_eq q) names (name ∷ [])
    ∙ ap (λ b. is_among q names || b) (or_false (bytes_eq q name))
    ∙ or_swapped (is_among q names) (bytes_eq q name)

with_value : {V : Type 0} (b : Bool) (value : V) (found : Option V) → is_some (cond b (Some value) found) ≡ (b || is_some found)
with_value true value found = refl
with_value false value found = refl

module _ {V : Type 0} where
  -- what a map gives with one key more
  get-put : (known : TextMapTo V) (name : List ℕ) (value : V) (q : List ℕ) → get (insert known name value) q ≡ cond (bytes_eq q name) (Some value) (get known q)
  get-put known name value q = get-insert nat_list_cmp_total known name value q ∙ ap (λ b. cond b (Some value) (get known q)) (is_eq-slice_cmp q name)

  pub no_names : (known : TextMapTo V) → known ≡ empty → HasNames known []
  no_names known is q = ap (λ m. is_some (get m q)) is ∙ ap is_some (get-empty (slice_cmp nat_cmp) q)

  pub one_more_name : (known new : TextMapTo V) (names : List (List ℕ)) (name : List ℕ) (value : V) → HasNames known names → new ≡ insert known name value → HasNames new (names ++ name ∷ [])
  one_more_name known new names name value has is q =
      ap (λ m. is_some (get m q)) is
      ∙ ap is_some (get-put known name value q)
      ∙ with_value (bytes_eq q name) value (get known q)
      ∙ ap (λ b. bytes_eq q name || b) (has q)
      ∙ sym (among-push q names name)

some_copied : {V : Type 0} (found : Option (Bor V)) → is_some found ≡ is_some (option_copied found)
some_copied None = refl
some_copied (Some value) = refl

-- whether a look-up found something, by the names that the map has
pub found_name : {V : Type 0} (known : TextMapTo V) (names : List (List ℕ)) (name : List ℕ) (found : Option (Bor V)) → HasNames known names → option_copied found ≡ get known name → is_some found ≡ is_among name names
found_name known names name found has is = some_copied found ∙ ap is_some is ∙ has name

-- ---- licences

-- a name is that of a licence just where something is known of it
pub is_some-entry : (licenses : List (List ℕ × LicenseEntry)) (name : List ℕ) → is_some (entry_of licenses name) ≡ is_among name (names_of licenses)
is_some-entry [] name = refl
is_some-entry (first ∷ rest) name =
    with_value (bytes_eq name first.0) first.1 (entry_of rest name) ∙ ap (λ b. bytes_eq name first.0 || b) (is_some-entry rest name)

is_none : {X : Type 0} (found : Option X) → is_some found ≡ false → found ≡ None
is_none None is = refl
is_none (Some x) is = cc

pub found_entry : (entries : TextMapTo LicenseEntry) (licenses : List (List ℕ × LicenseEntry)) (name : List ℕ) (found : Option (Bor LicenseEntry)) → HasEntries entries licenses → option_copied found ≡ get entries name
    → is_some found ≡ is_among name (names_of licenses)
found_entry entries licenses name found has is = some_copied found ∙ ap is_some is ∙ ap is_some (has name) ∙ is_some-entry licenses name

-- nothing is known of a name that is not among theirs
pub entry_none : (licenses : List (List ℕ × LicenseEntry)) (name : List ℕ) → is_among name (names_of licenses) ≡ false → entry_of licenses name ≡ None
entry_none licenses name is = is_none (entry_of licenses name) (is_some-entry licenses name ∙ is)

abbrev or_last : Bool → LicenseEntry → Option LicenseEntry → Option LicenseEntry
or_last b entry (Some found) = Some found
or_last b entry None = cond b (Some entry) None

or_last-first : (b c : Bool) (entry found : LicenseEntry) (rest : Option LicenseEntry) → cond b (Some found) (or_last c entry rest) ≡ or_last c entry (cond b (Some found) rest)
or_last-first true c entry found rest = refl
or_last-first false c entry found rest = refl

entry_of-push : (licenses : List (List ℕ × LicenseEntry)) (name : List ℕ) (entry : LicenseEntry) (q : List ℕ) → entry_of (licenses ++ (name, entry) ∷ []) q ≡ or_last (bytes_eq q name) entry (entry_of licenses q)
entry_of-push [] name entry q = refl
entry_of-push (first ∷ rest) name entry q =
    ap (cond (bytes_eq q first.0) (Some first.1)) (entry_of-push rest name entry q) ∙ or_last-first (bytes_eq q first.0) (bytes_eq q name) entry first.1 (entry_of rest q)

either : (b : Bool) (entry : LicenseEntry) (found : Option LicenseEntry) → (b ≡ true → found ≡ None) → cond b (Some entry) found ≡ or_last b entry found
either true entry None absent = refl
either true entry (Some x) absent = let never = absent refl in absurd (cc)
either false entry None absent = refl
either false entry (Some x) absent = refl

pub no_entries : (entries : TextMapTo LicenseEntry) → entries ≡ empty → HasEntries entries []
no_entries entries is q = ap (λ m. get m q) is ∙ get-empty (slice_cmp nat_cmp) q

pub one_more_entry : (entries new : TextMapTo LicenseEntry) (licenses : List (List ℕ × LicenseEntry)) (name : List ℕ) (entry : LicenseEntry) → HasEntries entries licenses → entry_of licenses name ≡ None
    → new ≡ insert entries name entry → HasEntries new (licenses ++ (name, entry) ∷ [])
one_more_entry entries new licenses name entry has absent is q =
    ap (λ m. get m q) is
    ∙ get-put entries name entry q
    ∙ ap (λ found. cond (bytes_eq q name) (Some entry) found) (has q)
    ∙ either (bytes_eq q name) entry (entry_of licenses q) (λ same. ap (λ n. entry_of licenses n) ((bytes_eq-Decides q name).0 same) ∙ absent)
    ∙ sym (entry_of-push licenses name entry q)

-- ---- one item more in a list

pub entries_push : (listed : List NamedEntry) (named : NamedEntry) → entries_listed (listed ++ named ∷ []) ≡ entries_listed listed ++ (named.name, named.entry) ∷ []
entries_push [] named = refl
entries_push (first ∷ listed) named = ap (λ rest. (first.name, first.entry) ∷ rest) (entries_push listed named)

pub meanings_push : (listed : List Meaning) (meaning : Meaning) → meanings_listed (listed ++ meaning ∷ []) ≡ meanings_listed listed ++ (meaning.text, meaning.name) ∷ []
meanings_push [] meaning = refl
meanings_push (first ∷ listed) meaning = ap (λ rest. (first.text, first.name) ∷ rest) (meanings_push listed meaning)

pub texts_push : (listed : List Meaning) (meaning : Meaning) → texts_lowered (meanings_listed (listed ++ meaning ∷ [])) ≡ texts_lowered (meanings_listed listed) ++ str_to_ascii_lowercase meaning.text ∷ []
texts_push [] meaning = refl
texts_push (first ∷ listed) meaning = ap (λ rest. str_to_ascii_lowercase first.text ∷ rest) (texts_push listed meaning)
