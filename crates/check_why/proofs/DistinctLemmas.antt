-- Texts, each once, and a map that knows them.
use Rattle.std.proofs.Common.{◌≡◌, ◌∙◌, ℕ, Bool, true, false, cond, ◌||◌, List, [], ◌∷◌, ◌++◌, Option, Some, is_some, refl, sym, ap}
use Rattle.std.specs.FinMap.{get, insert, empty, get-empty, get-insert}
use Rattle.std.specs.Cmp.Lexicographic.{slice_cmp, nat_list_cmp_total}
use Rattle.std.specs.List.{list_any}
use Rattle.std.specs.Ordering.{nat_cmp}
use Rattle.std.specs.Str.{bytes_eq}
use Rattle.std.proofs.lemmas.Map.Text.{is_eq-slice_cmp}
use Rattle.std.proofs.lemmas.Slice.Eq.{bytes_eq-Decides}
use Rattle.deny_text.specs.TextMap.{TextMapTo}
use Rattle.check_why.specs.Distinct.{KnowsTexts}

swapped : (a b : List ℕ) → bytes_eq a b ≡ bytes_eq b a
swapped a b = by (bytes_eq a b) (bytes_eq b a) (bytes_eq-Decides a b) (bytes_eq-Decides b a)
  where
    by : (r s : Bool) → (r ≡ true → a ≡ b) × (a ≡ b → r ≡ true) → (s ≡ true → b ≡ a) × (b ≡ a → s ≡ true) → r ≡ s
    by true true p q = refl
    by true false p q = sym (q.1 (sym (p.0 refl)))
    by false true p q = p.1 (sym (q.0 refl))
    by false false p q = refl

or_swapped : (a b c : Bool) → (a || (b || c)) ≡ (b || (a || c))
or_swapped true true c = refl
or_swapped true false c = refl
or_swapped false b c = refl

any_last : {A : Type 0} (p : A → Bool) (xs : List A) (y : A) → list_any p (xs ++ y ∷ []) ≡ (p y || list_any p xs)
any_last p [] y = refl
any_last p (x ∷ xs) y = ap (λ b. p x || b) (any_last p xs y) ∙ or_swapped (p x) (p y) (list_any p xs)

some_of : (here : Bool) (place : ℕ) (found : Option ℕ) → is_some (cond here (Some place) found) ≡ (here || is_some found)
some_of true place found = refl
some_of false place found = refl

pub no_texts : (places : TextMapTo ℕ) → places ≡ empty → KnowsTexts places []
no_texts places is text = ap (λ m. is_some (get m text)) is ∙ ap (λ (found : Option ℕ). is_some found) (get-empty (slice_cmp nat_cmp) text)

pub one_more_text : (places new : TextMapTo ℕ) (texts : List (List ℕ)) (text : List ℕ) (place : ℕ) → KnowsTexts places texts → new ≡ insert places text place → KnowsTexts new (texts ++ text ∷ [])
one_more_text places new texts text place knows is asked =
    ap (λ m. is_some (get m asked)) is
    ∙ ap (λ (found : Option ℕ). is_some found) (get-insert nat_list_cmp_total places text place asked)
    ∙ ap (λ b. is_some (cond b (Some place) (get places asked))) (is_eq-slice_cmp asked text ∙ swapped asked text)
    ∙ some_of (bytes_eq text asked) place (get places asked)
    ∙ ap (λ b. bytes_eq text asked || b) (knows asked)
    ∙ sym (any_last (λ other. bytes_eq other asked) texts text)
