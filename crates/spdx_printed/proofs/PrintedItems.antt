-- The items of a printed term, wherever it stands.
use Rattle.std.proofs.Common.{◌≡◌, ◌∙◌, refl, ap, ℕ, ◌+◌, ◌<◌, Bool, true, false, not, ◌||◌, cond, List, [], ◌∷◌, ◌++◌, append_assoc, append-nil, Option, Some, None, unwrap_or, length, take, drop, arith}
use Rattle.std.proofs.lemmas.List.{length-append}
use Rattle.std.proofs.lemmas.List.Folds.{list_all-append}
use Rattle.std.proofs.Math.Seq.{take-append_seam, drop-append_seam, drop-append-add}
use Rattle.std.proofs.lemmas.Bool.{false≢true}
use Rattle.std.proofs.lemmas.Bool.Decides.{nat_tests}
use Rattle.std.proofs.lemmas.Slice.Eq.{bytes_eq-Decides}
use Rattle.std.specs.Prelude.{codes}
use Rattle.std.specs.Option.{option_map, option_or}
use Rattle.std.specs.List.{list_all, list_any, before_first, after_first}
use Rattle.std.specs.Str.{bytes_eq}
use Rattle.spdx_terms.specs.declared.catalog.catalog.LicenseEntry.{LicenseEntry}
use Rattle.spdx_terms.specs.catalog.Catalog.{CatalogLists, IsCatalog}
use Rattle.spdx_terms.specs.catalog.Words.{is_word_byte, is_word, is_name, ends_word}
use Rattle.spdx_terms.specs.declared.term.LicenseItem.{LicenseItem}
use Rattle.spdx_terms.specs.declared.term.LicenseItem.TheVariants.{Spdx, Reference}
use Rattle.spdx_terms.specs.declared.item.Simple.{Simple}
use Rattle.spdx_terms.specs.declared.item.Item.{Item}
use Rattle.spdx_terms.specs.declared.item.ItemKind.TheVariants.{Term, Exception, With}
use Rattle.spdx_terms.specs.declared.item.WantedItem.TheVariants.{Term as wants_term, Exception as wants_exception, AfterTerm, AfterPart}
use Rattle.spdx_terms.specs.Tokens.{in_word, is_colon, after_prefix, own_license, in_document, or_else, reference_of, one_of}
use Rattle.spdx_terms.specs.Items.{item_at, term_of, license_at, plus_behind, operator_of, word_item, items_from}
use Rattle.spdx_terms.specs.Terms.{reference_text, item_text}
use Rattle.spdx_terms.proofs.ImpreciseLemmas.{both_true, and_true}
use Rattle.spdx_terms.proofs.ItemBorders.{step_white}
use Rattle.spdx_core.specs.Grammar.{item}
use Rattle.spdx_core.specs.Printing.{IsWordIf, IsKnown, printed_mode}
use Rattle.spdx_core.proofs.NameItems.{run_all, is_run, letters_in_word, IsNamed, name_parts, some_bytes, word_step, name_step}

-- ---- references

no_colon : (b : ℕ) → is_word_byte b ≡ true → not (is_colon b) ≡ true
no_colon b h = grind (arith, nat_tests)

no_colons : (bs : List ℕ) → list_all is_word_byte bs ≡ true → list_all (λ b. not (is_colon b)) bs ≡ true
no_colons [] h = refl
no_colons (b ∷ bs) h =
    let parts = both_true (is_word_byte b) (list_all is_word_byte bs) h in
    and_true (not (is_colon b)) (list_all (λ b. not (is_colon b)) bs) (no_colon b parts.0) (no_colons bs parts.1)

word_bytes : (word : List ℕ) → is_word word ≡ true → list_all is_word_byte word ≡ true
word_bytes [] h = refl
word_bytes (b ∷ bs) h = h

-- what is before the first colon, and behind it
before_colon : (doc rest : List ℕ) → is_word doc ≡ true → before_first is_colon (doc ++ 58 ∷ rest) ≡ doc
before_colon doc rest h =
    ap (λ n. take n (doc ++ 58 ∷ rest)) (run_all (λ b. not (is_colon b)) doc (58 ∷ rest) (no_colons doc (word_bytes doc h)) refl) ∙ take-append_seam doc (58 ∷ rest)

behind_colon : (doc rest : List ℕ) → is_word doc ≡ true → after_first is_colon (doc ++ 58 ∷ rest) ≡ rest
behind_colon doc rest h =
    ap (λ n. drop (n + 1) (doc ++ 58 ∷ rest)) (run_all (λ b. not (is_colon b)) doc (58 ∷ rest) (no_colons doc (word_bytes doc h)) refl) ∙ drop-append-add doc (58 ∷ rest) 1

reference_reads : (doc : Option (List ℕ)) (id : List ℕ) → IsWordIf doc → is_word id ≡ true → reference_of (reference_text doc id) ≡ Some (Reference doc id)
reference_reads None id own ok = ap (λ t. or_else (cond t (Some (Reference None id)) None) (in_document (after_prefix (codes "DocumentRef-") (codes "LicenseRef-" ++ id)))) ok
reference_reads (Some doc) id own ok =
    let rest : List ℕ = codes "LicenseRef-" ++ id in
    ap (λ (found : List ℕ). cond (is_word found) (own_license (Some found) (after_prefix (codes "LicenseRef-") (after_first is_colon (doc ++ 58 ∷ rest)))) None) (before_colon doc rest own)
    ∙ ap (λ t. cond t (own_license (Some doc) (after_prefix (codes "LicenseRef-") (after_first is_colon (doc ++ 58 ∷ rest)))) None) own
    ∙ ap (λ (found : List ℕ). own_license (Some doc) (after_prefix (codes "LicenseRef-") found)) (behind_colon doc rest own)
    ∙ ap (λ t. cond t (Some (Reference (Some doc) id)) None) ok

reference_run : (doc : Option (List ℕ)) (id : List ℕ) → IsWordIf doc → is_word id ≡ true → is_run (reference_text doc id) ≡ true
reference_run None id own ok = letters_in_word id (word_bytes id ok)
reference_run (Some doc) id own ok =
    list_all-append in_word doc (codes ":LicenseRef-" ++ id)
    ∙ and_true (list_all in_word doc) (list_all in_word (codes ":LicenseRef-" ++ id)) (letters_in_word doc (word_bytes doc own)) (letters_in_word id (word_bytes id ok))

-- ---- licences and references

-- what ends a word, and is no `+`
pub record Ends (rest : List ℕ) : Type 0 where
  pub word : ends_word rest ≡ true
  pub bare : plus_behind rest 0 ≡ false

-- a licence of the catalogue, or a reference that is made of words
abbrev pub IsPlainItem : CatalogLists → LicenseItem → Type 0
IsPlainItem lists (Spdx name family rank later plus) = IsKnown lists name
IsPlainItem lists (Reference doc id) = IsWordIf doc × (is_word id ≡ true)

-- a printed item from a place on, and what is behind it
pub record PrintedItem (lists : CatalogLists) (it : LicenseItem) (place : ℕ) (rest : List ℕ) : Type 0 where
  pub named : Simple
  pub says : item_text named.item ≡ item_text it
  pub end : ℕ
  pub ends : end ≡ place + length (item_text it)
  pub items : items_from printed_mode lists wants_term place place (item_text it ++ rest) ≡ item (Term named) place end ∷ items_from printed_mode lists AfterTerm end end rest

-- a term as a name spells it
named_as : List ℕ → LicenseEntry → Bool → ℕ → Simple
named_as name entry plus place = record {
  item = Spdx name entry.family entry.rank (plus || entry.later) plus;
  marks = record { later = entry.later; deprecated = entry.deprecated; gnu = entry.gnu; plus = plus };
  name_end = place + length name;
}

printed_license : (lists : CatalogLists) → IsCatalog lists → (name : List ℕ) (family rank : ℕ) (later plus : Bool) → IsKnown lists name → (place : ℕ) (rest : List ℕ) → Ends rest
    → PrintedItem lists (Spdx name family rank later plus) place rest
unfolding named_as
printed_license lists laws name family rank later true known place rest ends =
    let it = item (Term (named_as name known.0 true place)) place (place + (length name + 1)) in
    let whole : length (name ++ 43 ∷ rest) ≡ length name + length (43 ∷ rest) = length-append name (43 ∷ rest) in
    let long : length (name ++ 43 ∷ []) ≡ length name + 1 = length-append name (43 ∷ []) in
    record {
      named = named_as name known.0 true place;
      says = refl;
      end = place + (length name + 1);
      ends = omega arith;
      items =
          ap (λ text. items_from printed_mode lists wants_term place place text) (append_assoc name (43 ∷ []) rest)
          ∙ name_step printed_mode lists place name (43 ∷ rest) known.0 true laws refl known.1 refl refl (length name + 1) refl (omega arith) (omega arith)
          ∙ ap (λ left. it ∷ items_from printed_mode lists AfterTerm (place + (length name + 1)) (place + (length name + 1)) left) (drop-append-add name (43 ∷ rest) 1);
    }
printed_license lists laws name family rank later false known place rest ends =
    let it = item (Term (named_as name known.0 false place)) place (place + length name) in
    let whole : length (name ++ rest) ≡ length name + length rest = length-append name rest in
    let long : length (name ++ []) ≡ length name = ap length (append-nil name) in
    record {
      named = named_as name known.0 false place;
      says = refl;
      end = place + length name;
      ends = omega arith;
      items =
          ap (λ (front : List ℕ). items_from printed_mode lists wants_term place place (front ++ rest)) (append-nil name)
          ∙ name_step printed_mode lists place name rest known.0 false laws refl known.1 ends.word ends.bare (length name) refl (omega arith) (omega arith)
          ∙ ap (λ left. it ∷ items_from printed_mode lists AfterTerm (place + length name) (place + length name) left) (drop-append_seam name rest);
    }

-- a reference as an item
referred : ℕ → ℕ → LicenseItem → Item
referred place len found = term_of found (record { later = false; deprecated = false; gnu = false; plus = false }) place len

printed_reference : (lists : CatalogLists) (doc : Option (List ℕ)) (id : List ℕ) → IsWordIf doc → is_word id ≡ true → (place : ℕ) (rest : List ℕ) → ends_word rest ≡ true → PrintedItem lists (Reference doc id) place rest
unfolding referred
printed_reference lists doc id own ok place rest stops =
    let word : List ℕ = reference_text doc id in
    let run : is_run (reference_text doc id) ≡ true = reference_run doc id own ok in
    let some : 0 < length (reference_text doc id) = some_bytes (reference_text doc id) run in
    let text : List ℕ = word ++ rest in
    let len : ℕ = length word in
    let it : Item = referred place len (Reference doc id) in
    let whole : length (reference_text doc id ++ rest) ≡ length (reference_text doc id) + length rest = length-append (reference_text doc id) rest in
    let is : word_item printed_mode lists wants_term place (word ++ rest) (length word) ≡ it =
    ap (λ (front : List ℕ). unwrap_or (option_or (option_map (referred place len) (reference_of front)) (license_at lists front place text len)) (item_at (operator_of front) place len)) (take-append_seam word rest)
    ∙ ap (λ found. unwrap_or (option_or (option_map (referred place len) found) (license_at lists word place text len)) (item_at (operator_of word) place len)) (reference_reads doc id own ok) in
    record {
      named = record { item = Reference doc id; marks = record { later = false; deprecated = false; gnu = false; plus = false }; name_end = place + length word };
      says = refl;
      end = place + length word;
      ends = refl;
      items =
          word_step printed_mode lists wants_term place word rest it len run stops is refl some (omega arith)
          ∙ ap (λ left. it ∷ items_from printed_mode lists AfterTerm (place + len) (place + len) left) (drop-append_seam word rest);
    }

pub printed_item : (lists : CatalogLists) → IsCatalog lists → (it : LicenseItem) → IsPlainItem lists it → (place : ℕ) (rest : List ℕ) → Ends rest → PrintedItem lists it place rest
printed_item lists laws (Spdx name family rank later plus) is place rest ends = printed_license lists laws name family rank later plus is place rest ends
printed_item lists laws (Reference doc id) is place rest ends = printed_reference lists doc id is.0 is.1 place rest ends.word

-- ---- exceptions

listed_exception : (names : List (List ℕ)) (name : List ℕ) → list_all is_name names ≡ true → list_any (bytes_eq name) names ≡ true → is_name name ≡ true
listed_exception [] name all h = absurd (false≢true h)
listed_exception (one ∷ rest) name all h =
    let parts = both_true (is_name one) (list_all is_name rest) all in
    elim (bytes_eq name one) as (λ (t : Bool). bytes_eq name one ≡ t → (t || list_any (bytes_eq name) rest) ≡ true → is_name name ≡ true) [
      | true ↦ λ is e. ap is_name ((bytes_eq-Decides name one).0 is) ∙ parts.0
      | false ↦ λ is e. listed_exception rest name parts.1 e
    ]
    refl h

-- an exception behind a term
pub behind_with : (lists : CatalogLists) → IsCatalog lists → (name : List ℕ) → one_of lists.exceptions name ≡ true → (place : ℕ) (rest : List ℕ) → ends_word rest ≡ true
    → items_from printed_mode lists AfterTerm place place (codes " WITH " ++ (name ++ rest))
    ≡ item With (place + 1) (place + 1 + 4) ∷ item (Exception name) (place + 1 + 4 + 1) (place + 1 + 4 + 1 + length name)
    ∷ items_from printed_mode lists AfterPart (place + 1 + 4 + 1 + length name) (place + 1 + 4 + 1 + length name) rest
behind_with lists laws name known place rest stops =
    let named : IsNamed name = name_parts name (listed_exception lists.exceptions name laws.exception_names known) in
    let from : ℕ = place + 1 + 4 + 1 in
    let it : Item = item_at (Exception name) from (length name) in
    let some : 0 < length name = some_bytes name named.run in
    let whole : length (name ++ rest) ≡ length name + length rest = length-append name rest in
    let is : word_item printed_mode lists wants_exception from (name ++ rest) (length name) ≡ it =
    ap (λ (word : List ℕ). item_at (cond (one_of lists.exceptions word) (Exception word) (operator_of word)) from (length name)) (take-append_seam name rest)
    ∙ ap (λ t. item_at (cond t (Exception name) (operator_of name)) from (length name)) known in
    let last : items_from printed_mode lists wants_exception from from (name ++ rest) ≡ it ∷ items_from printed_mode lists AfterPart (from + length name) (from + length name) rest =
    word_step printed_mode lists wants_exception from name rest it (length name) named.run stops is refl some (omega arith)
    ∙ ap (λ left. it ∷ items_from printed_mode lists AfterPart (from + length name) (from + length name) left) (drop-append_seam name rest) in
    step_white printed_mode lists AfterTerm place 32 (codes "WITH " ++ (name ++ rest)) refl
    ∙ word_step printed_mode lists AfterTerm (place + 1) (codes "WITH") (32 ∷ (name ++ rest)) (item_at With (place + 1) 4) 4 refl refl refl refl (omega arith) (omega arith)
    ∙ ap (λ items. item With (place + 1) (place + 1 + 4) ∷ items) (step_white printed_mode lists wants_exception (place + 1 + 4) 32 (name ++ rest) refl ∙ last)
