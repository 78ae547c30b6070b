-- Looking a text up among stored ones.
use Rattle.std.proofs.Common.{◌≡◌, ◌∙◌, ℕ, ◌+◌, ◌<◌, Bool, not, cond, List, [], ◌∷◌, ◌++◌, length, map, find, Option, Some, None, Bor, refl, ap, sym, subst, slice_get, codes, arith, length-append}
use Rattle.std.proofs.lemmas.Bool.{ltb-false, ltb-true}
use Rattle.std.proofs.lemmas.List.{length-map}
use Rattle.std.proofs.lemmas.List.Folds.{find_at}
use Rattle.std.proofs.lemmas.Option.{slice_get_past, slice_get_read}
use Rattle.std.specs.Option.{option_copied}
use Rattle.std.specs.Slice.{IsItemAt}
use Rattle.std.specs.Str.{bytes_eq}
use Rattle.std.specs.List.{position_or_len}
use Rattle.spdx_terms.specs.declared.catalog.store.StoreText.{StoreText}
use Rattle.spdx_terms.specs.catalog.TextWords.{words_of, words_with_spaces}
use Rattle.spdx_terms.specs.catalog.Store.{named_for, same_words, stored_for}
use Rattle.spdx_terms.specs.catalog.StorePlaces.{all_named, all_spelled}
use Rattle.spdx_terms.proofs.catalog.SpelledLemmas.{AllSpaceless, same_spelled, words_spaceless}

-- a place among what is made of the items is a place among the items
position-map : {A B : Type 0} (f : A → B) (p : A → Bool) (q : B → Bool) → ((x : A) → p x ≡ q (f x)) → (xs : List A) → position_or_len p xs ≡ position_or_len q (map f xs)
position-map f p q same [] = refl
position-map f p q same (x ∷ xs) =
    ap (λ b. cond (not b) (1 + position_or_len p xs) 0) (same x)
    ∙ ap (λ n. cond (not (q (f x))) (1 + n) 0) (position-map f p q same xs)

-- a text without words is none of the stored ones
nothing_stored : (texts : List StoreText) → find (λ (stored : StoreText). same_words (words_of stored.body) []) texts ≡ None
nothing_stored [] = refl
nothing_stored (first ∷ rest) = nothing_stored rest

some_spelled : (words : List (List ℕ)) → AllSpaceless words → (stored : StoreText) → 0 < length (words_with_spaces words) → same_words (words_of stored.body) words ≡ bytes_eq (words_with_spaces (words_of stored.body)) (words_with_spaces words)
some_spelled [] clean stored some = absurd (omega (arith, some))
some_spelled (word ∷ words) clean stored some = same_spelled (words_of stored.body) (word ∷ words) (words_spaceless stored.body) clean

-- the text at the place of the same spelled words is the stored one
pub stored_at : (texts : List StoreText) (text words : List ℕ) → words ≡ words_with_spaces (words_of text) → 0 < length words → stored_for texts text ≡ slice_get texts (position_or_len (λ known. bytes_eq known words) (all_spelled texts))
stored_at texts text words is some =
    let test = λ (stored : StoreText). same_words (words_of stored.body) (words_of text) in
    let same = λ (stored : StoreText). some_spelled (words_of text) (words_spaceless text) stored (subst (λ (bytes : List ℕ). 0 < length bytes) is some) ∙ ap (λ (bytes : List ℕ). bytes_eq (words_with_spaces (words_of stored.body)) bytes) (sym is) in
    find_at test texts
    ∙ ap (λ n. slice_get texts n) (position-map (λ (stored : StoreText). words_with_spaces (words_of stored.body)) test (λ known. bytes_eq known words) same texts)

no_words : (words : List (List ℕ)) → length (words_with_spaces words) ≡ 0 → words ≡ []
no_words [] none = refl
no_words (word ∷ words) none = absurd (omega (arith, none, length-append (word ++ codes " ") (words_with_spaces words), length-append word (codes " ")))

-- a text whose words take no bytes has none, and is not stored
pub none_stored : (texts : List StoreText) (text words : List ℕ) → words ≡ words_with_spaces (words_of text) → length words ≡ 0 → stored_for texts text ≡ None
none_stored texts text words is none =
    ap (λ words. find (λ (stored : StoreText). same_words (words_of stored.body) words) texts) (no_words (words_of text) (ap (λ (bytes : List ℕ). length bytes) (sym is) ∙ none))
    ∙ nothing_stored texts

-- no text is behind the last one
pub none_behind : (texts : List StoreText) (n : ℕ) → n ≡ length (all_spelled texts) → slice_get texts n ≡ None
none_behind texts n is = slice_get_past texts n (omega (arith, is, length-map texts (λ (stored : StoreText). words_with_spaces (words_of stored.body))))

-- the text at the place of a name is the first of that name
pub named_at : (texts : List StoreText) (name : List ℕ) → named_for texts name ≡ slice_get texts (position_or_len (λ known. bytes_eq known name) (all_named texts))
named_at texts name =
    let test = λ (stored : StoreText). bytes_eq stored.name name in
    find_at test texts
    ∙ ap (λ n. slice_get texts n) (position-map (λ (stored : StoreText). stored.name) test (λ known. bytes_eq known name) (λ stored. refl) texts)

-- no text is behind the last name
pub no_name_behind : (texts : List StoreText) (n : ℕ) → n ≡ length (all_named texts) → slice_get texts n ≡ None
no_name_behind texts n is = slice_get_past texts n (omega (arith, is, length-map texts (λ (stored : StoreText). stored.name)))

-- what is at a place
pub item_at : (texts : List StoreText) (i : ℕ) (r : Option (Bor StoreText)) → IsItemAt texts i r → option_copied r ≡ slice_get texts i
item_at texts i None item = sym (slice_get_past texts i (ltb-false i (length texts) (sym item.0)))
item_at texts i (Some x) item = sym (slice_get_read texts (length texts) i x.now refl (ltb-true i (length texts) (sym item.0)) item.1)
