-- The places of texts in a map.
use Rattle.std.proofs.Common.{◌≡◌, ◌∙◌, ℕ, ◌+◌, Bool, true, false, cond, List, [], ◌∷◌, ◌++◌, find, length, not, position, Option, Some, None, Result, Ok, Err, IfOk, ◌||◌, refl, sym, ap, arith}
use Rattle.std.specs.FinMap.{get, insert, empty, get-empty, get-insert}
use Rattle.std.specs.Cmp.Lexicographic.{slice_cmp, nat_list_cmp_total}
use Rattle.std.specs.List.{list_any, position_from, position_or_len}
use Rattle.std.specs.Prelude.{nat_lt}
use Rattle.std.specs.Ordering.{nat_cmp}
use Rattle.std.specs.Str.{bytes_eq}
use Rattle.std.proofs.lemmas.Bool.{ltb-true}
use Rattle.std.proofs.lemmas.Option.{cond_some}
use Rattle.std.proofs.lemmas.Iterator.Adapters.{position_from-zero}
use Rattle.std.proofs.lemmas.Map.Text.{is_eq-slice_cmp}
use Rattle.std.proofs.lemmas.Slice.Eq.{bytes_eq-Decides}
use Rattle.deny_text.specs.TextMap.{TextMapTo}
use Rattle.graph_core.specs.Krate.{has_text}
use Rattle.check_notice.specs.Numbers.{FindsTexts, number_in, with_text}
use Rattle.check_notice.proofs.FindLemmas.{none_found}
use Rattle.check_notice.proofs.NumberLemmas.{same_text, swapped}

-- what is behind all others is found where none of these is
abbrev or_last : Bool → ℕ → Option ℕ → Option ℕ
or_last here place (Some found) = Some found
or_last here place None = cond here (Some place) None

or_last-first : (first here : Bool) (i place : ℕ) (rest : Option ℕ) → cond first (Some i) (or_last here place rest) ≡ or_last here place (cond first (Some i) rest)
or_last-first true here i place rest = refl
or_last-first false here i place rest = refl

position_from-push : (test : List ℕ → Bool) (i : ℕ) (texts : List (List ℕ)) (text : List ℕ) → position_from test i (texts ++ text ∷ []) ≡ or_last (test text) (i + length texts) (position_from test i texts)
position_from-push test i [] text = ap (λ n. cond (test text) (Some n) None) (omega arith)
position_from-push test i (first ∷ texts) text =
    ap (cond (test first) (Some i)) (position_from-push test (i + 1) texts text ∙ ap (λ n. or_last (test text) n (position_from test (i + 1) texts)) (omega arith))
    ∙ or_last-first (test first) (test text) i (i + length (first ∷ texts)) (position_from test (i + 1) texts)

position-push : (test : List ℕ → Bool) (texts : List (List ℕ)) (text : List ℕ) → position test (texts ++ text ∷ []) ≡ or_last (test text) (length texts) (position test texts)
position-push test texts text =
    position_from-zero test (texts ++ text ∷ [])
    ∙ position_from-push test 0 texts text
    ∙ ap (λ n. or_last (test text) n (position_from test 0 texts)) {x = 0 + length texts} {y = length texts} (omega arith)
    ∙ ap (or_last (test text) (length texts)) (sym (position_from-zero test texts))

pub no_texts : (places : TextMapTo ℕ) → places ≡ empty → FindsTexts places []
no_texts places is text = ap (λ m. get m text) is ∙ get-empty (slice_cmp nat_cmp) text

-- by whether the new text is the one that is asked for, which then had no place
new_place : (here : Bool) (place : ℕ) (found : Option ℕ) → (here ≡ true → found ≡ None) → cond here (Some place) found ≡ or_last here place found
new_place true place found none = sym (ap (or_last true place) (none refl))
new_place false place (Some old) none = refl
new_place false place None none = refl

-- one text more, which was not there
pub one_more_text : (places new : TextMapTo ℕ) (texts : List (List ℕ)) (text : List ℕ) (place : ℕ) → FindsTexts places texts → position (λ one. bytes_eq one text) texts ≡ None → new ≡ insert places text place
    → place ≡ length texts → FindsTexts new (texts ++ text ∷ [])
one_more_text places new texts text place finds none is at asked =
    ap (λ m. get m asked) is
    ∙ get-insert nat_list_cmp_total places text place asked
    ∙ ap (λ b. cond b (Some place) (get places asked)) (is_eq-slice_cmp asked text ∙ swapped asked text)
    ∙ new_place (bytes_eq text asked) place (get places asked) (λ same. ap (get places) (sym ((bytes_eq-Decides text asked).0 same)) ∙ finds text ∙ none)
    ∙ ap (or_last (bytes_eq text asked) place) (finds asked)
    ∙ ap (λ n. or_last (bytes_eq text asked) n (position (λ one. bytes_eq one asked) texts)) at
    ∙ sym (position-push (λ one. bytes_eq one asked) texts text)

-- ---- a text that is there, or comes

-- where none passes, the place is behind all
behind_all : {A : Type 0} (p : A → Bool) (xs : List A) → list_any p xs ≡ false → position_or_len p xs ≡ length xs
behind_all p [] none = refl
behind_all p (x ∷ xs) none =
    elim (p x) as (λ b. (b || list_any p xs) ≡ false → cond (not b) (1 + position_or_len p xs) 0 ≡ length (x ∷ xs)) [
      | true ↦ λ never. absurd (cc)
      | false ↦ λ rest. ap (λ n. 1 + n) (behind_all p xs rest) ∙ omega arith
    ] none

any_found : {A : Type 0} (p : A → Bool) (xs : List A) → find p xs ≡ None → list_any p xs ≡ false
any_found p [] none = refl
any_found p (x ∷ xs) none =
    elim (p x) as (λ b. cond b (Some x) (find p xs) ≡ None → (b || list_any p xs) ≡ false) [
      | true ↦ λ never. absurd (cc)
      | false ↦ λ rest. any_found p xs rest
    ] none

-- the last one is the first that passes
last_place : {A : Type 0} (p : A → Bool) (xs : List A) (y : A) → list_any p xs ≡ false → p y ≡ true → position_or_len p (xs ++ y ∷ []) ≡ length xs
last_place p [] y none last = ap (λ b. cond (not b) (1 + 0) 0) last
last_place p (x ∷ xs) y none last =
    elim (p x) as (λ b. (b || list_any p xs) ≡ false → cond (not b) (1 + position_or_len p (xs ++ y ∷ [])) 0 ≡ length (x ∷ xs)) [
      | true ↦ λ never. absurd (cc)
      | false ↦ λ rest. ap (λ n. 1 + n) (last_place p xs y rest last) ∙ omega arith
    ] none

-- a text that has a place is there
pub with_old : (texts : List (List ℕ)) (text : List ℕ) (place : ℕ) → position (λ one. bytes_eq one text) texts ≡ Some place → texts ≡ with_text texts text
with_old texts text place is = by (has_text texts text) refl
  where
    by : (b : Bool) → has_text texts text ≡ b → texts ≡ with_text texts text
    by true there = sym (ap (λ b. cond b texts (texts ++ text ∷ [])) there)
    by false none =
        let parts = cond_some (nat_lt (position_or_len (λ one. bytes_eq one text) texts) (length texts)) (position_or_len (λ one. bytes_eq one text) texts) place is in
        let less = ltb-true (position_or_len (λ one. bytes_eq one text) texts) (length texts) parts.0 in
        let all = behind_all (λ one. bytes_eq one text) texts none in
        absurd (omega (arith, less, all))

not_there : (texts : List (List ℕ)) (text : List ℕ) → position (λ one. bytes_eq one text) texts ≡ None → has_text texts text ≡ false
not_there texts text none = any_found (λ one. bytes_eq one text) texts (none_found (λ one. bytes_eq one text) texts none)

-- a text that has none comes behind the others
pub with_other : (texts : List (List ℕ)) (text : List ℕ) (new : List (List ℕ)) → position (λ one. bytes_eq one text) texts ≡ None → new ≡ texts ++ text ∷ [] → new ≡ with_text texts text
with_other texts text new none is = is ∙ sym (ap (λ b. cond b texts (texts ++ text ∷ [])) (not_there texts text none))

pub new_number : (texts : List (List ℕ)) (text : List ℕ) (new : List (List ℕ)) (number : ℕ) → position (λ one. bytes_eq one text) texts ≡ None → new ≡ texts ++ text ∷ [] → number ≡ length texts + 1
    → number ≡ number_in new text
new_number texts text new number none is numbered =
    numbered
    ∙ ap (λ n. n + 1) (sym (last_place (λ one. bytes_eq one text) texts text (not_there texts text none) (same_text text)))
    ∙ ap (λ those. number_in those text) (sym is)

pub both_ok : {A E : Type 0} (result : Result A E) (P Q R : A → Type 0) → ((x : A) → P x → Q x → R x) → IfOk result P → IfOk result Q → IfOk result R
both_ok (Ok x) P Q R then one other = then x one other
both_ok (Err e) P Q R then one other = tt
