-- The first places of stored texts, in a map.
use Rattle.std.proofs.Common.{◌≡◌, ◌∙◌, ℕ, ◌+◌, Bool, true, false, cond, List, [], ◌∷◌, ◌++◌, length, take, get_or, ◌<◌, ◌≤◌, position, Option, Some, None, is_some, refl, sym, ap, arith}
use Rattle.std.specs.FinMap.{get, insert, empty, get-empty, get-insert}
use Rattle.std.specs.Cmp.Lexicographic.{slice_cmp, nat_list_cmp_total}
use Rattle.std.specs.List.{position_from}
use Rattle.std.specs.Ordering.{nat_cmp}
use Rattle.std.specs.Str.{bytes_eq}
use Rattle.std.proofs.lemmas.Iterator.Adapters.{position_from-zero}
use Rattle.std.proofs.lemmas.List.{length-map, length-take-le, map-append, take_more}
use Rattle.std.proofs.lemmas.Map.Text.{is_eq-slice_cmp}
use Rattle.std.proofs.lemmas.Slice.Eq.{bytes_eq-Decides}
use Rattle.deny_text.specs.TextMap.{TextMapTo}
use Rattle.spdx_terms.specs.declared.catalog.store.StoreText.{StoreText}
use Rattle.spdx_terms.specs.catalog.StorePlaces.{FindsPlaces, FindsTexts, all_named, all_spelled, with_new}
use Rattle.spdx_terms.specs.catalog.TextWords.{words_with_spaces, words_of}

abbrev or_at : Bool → ℕ → Option ℕ → Option ℕ
or_at here place (Some found) = Some found
or_at here place None = cond here (Some place) None

or_at-first : (b here : Bool) (i place : ℕ) (rest : Option ℕ) → cond b (Some i) (or_at here place rest) ≡ or_at here place (cond b (Some i) rest)
or_at-first true here i place rest = refl
or_at-first false here i place rest = refl

position_from-push : (test : List ℕ → Bool) (i : ℕ) (known : List (List ℕ)) (one : List ℕ) → position_from test i (known ++ one ∷ []) ≡ or_at (test one) (i + length known) (position_from test i known)
position_from-push test i [] one = ap (λ n. cond (test one) (Some n) None) (omega arith)
position_from-push test i (first ∷ known) one =
    ap (cond (test first) (Some i)) (position_from-push test (i + 1) known one ∙ ap (λ n. or_at (test one) n (position_from test (i + 1) known)) (omega arith))
    ∙ or_at-first (test first) (test one) i (i + length (first ∷ known)) (position_from test (i + 1) known)

position-push : (test : List ℕ → Bool) (known : List (List ℕ)) (one : List ℕ) → position test (known ++ one ∷ []) ≡ or_at (test one) (length known) (position test known)
position-push test known one =
    position_from-zero test (known ++ one ∷ [])
    ∙ position_from-push test 0 known one
    ∙ ap (λ n. or_at (test one) n (position_from test 0 known)) {x = 0 + length known} {y = length known} (omega arith)
    ∙ ap (or_at (test one) (length known)) (sym (position_from-zero test known))

swapped : (a b : List ℕ) → bytes_eq a b ≡ bytes_eq b a
swapped a b = by (bytes_eq a b) (bytes_eq b a) (bytes_eq-Decides a b) (bytes_eq-Decides b a)
  where
    by : (r s : Bool) → (r ≡ true → a ≡ b) × (a ≡ b → r ≡ true) → (s ≡ true → b ≡ a) × (b ≡ a → s ≡ true) → r ≡ s
    by true true p q = refl
    by true false p q = sym (q.1 (sym (p.0 refl)))
    by false true p q = p.1 (sym (q.0 refl))
    by false false p q = refl

-- what a map gives with one key more
get-put : (places : TextMapTo ℕ) (key : List ℕ) (place : ℕ) (q : List ℕ) → get (insert places key place) q ≡ cond (bytes_eq key q) (Some place) (get places q)
get-put places key place q =
    get-insert nat_list_cmp_total places key place q ∙ ap (λ b. cond b (Some place) (get places q)) (is_eq-slice_cmp q key ∙ swapped q key)

pub no_places : (places : TextMapTo ℕ) → places ≡ empty → FindsPlaces places []
no_places places is q = ap (λ m. get m q) is ∙ get-empty (slice_cmp nat_cmp) q

pub no_texts : (places names : TextMapTo ℕ) → places ≡ empty → names ≡ empty → FindsTexts places names []
no_texts places names is are = record { by_words = no_places places is; by_names = no_places names are }

-- by whether the key is the one that is asked for, and whether that had a place
had_place : (here : Bool) (place : ℕ) (found : Option ℕ) → (here ≡ true → is_some found ≡ true) → found ≡ or_at here place found
had_place here place (Some old) some = refl
had_place true place None some = let never = some refl in absurd (cc)
had_place false place None some = refl

new_place : (here : Bool) (place : ℕ) (found : Option ℕ) → (here ≡ true → is_some found ≡ false) → cond here (Some place) found ≡ or_at here place found
new_place true place (Some old) none = let never = none refl in absurd (cc)
new_place true place None none = refl
new_place false place (Some old) none = refl
new_place false place None none = refl

pub one_more_place : (places new : TextMapTo ℕ) (known : List (List ℕ)) (key : List ℕ) (place : ℕ) → FindsPlaces places known → new ≡ with_new places key place → place ≡ length known → FindsPlaces new (known ++ key ∷ [])
one_more_place places new known key place finds is at q =
    ap (λ m. get m q) is ∙ by (is_some (get places key)) refl ∙ ap (or_at (bytes_eq key q) place) (finds q) ∙ ap (λ n. or_at (bytes_eq key q) n (position (λ one. bytes_eq one q) known)) at ∙ sym (position-push (λ one. bytes_eq one q) known key)
  where
    same : bytes_eq key q ≡ true → get places q ≡ get places key
    same equal = ap (get places) (sym ((bytes_eq-Decides key q).0 equal))

    by : (b : Bool) → is_some (get places key) ≡ b → get (cond b places (insert places key place)) q ≡ or_at (bytes_eq key q) place (get places q)
    by true some = had_place (bytes_eq key q) place (get places q) (λ equal. ap is_some (same equal) ∙ some)
    by false none = get-put places key place q ∙ new_place (bytes_eq key q) place (get places q) (λ equal. ap is_some (same equal) ∙ none)

-- the words of one text more
pub one_more_spelled : (texts : List StoreText) (place : ℕ) (stored : StoreText) → place < length texts → stored ≡ get_or texts place stored → all_spelled (take (place + 1) texts) ≡ all_spelled (take place texts) ++ words_with_spaces (words_of stored.body) ∷ []
one_more_spelled texts place stored within at =
    ap all_spelled (take_more texts place stored within ∙ ap (λ one. take place texts ++ one ∷ []) (sym at))
    ∙ map-append (λ (one : StoreText). words_with_spaces (words_of one.body)) (take place texts) (stored ∷ [])

pub so_many : (texts : List StoreText) (place : ℕ) → place ≤ length texts → place ≡ length (all_spelled (take place texts))
so_many texts place within = sym (length-map (take place texts) (λ (one : StoreText). words_with_spaces (words_of one.body)) ∙ length-take-le place texts within)

-- the name of one text more
pub one_more_named : (texts : List StoreText) (place : ℕ) (stored : StoreText) → place < length texts → stored ≡ get_or texts place stored → all_named (take (place + 1) texts) ≡ all_named (take place texts) ++ stored.name ∷ []
one_more_named texts place stored within at =
    ap all_named (take_more texts place stored within ∙ ap (λ one. take place texts ++ one ∷ []) (sym at))
    ∙ map-append (λ (one : StoreText). one.name) (take place texts) (stored ∷ [])

pub so_many_names : (texts : List StoreText) (place : ℕ) → place ≤ length texts → place ≡ length (all_named (take place texts))
so_many_names texts place within = sym (length-map (take place texts) (λ (one : StoreText). one.name) ∙ length-take-le place texts within)
