-- Lists that keep something at some places.
use Rattle.std.proofs.Common.{◌≡◌, ◌⊎◌, ◌∙◌, refl, sym, ap, subst, inl, inr, ℕ, zero, suc, ◌<◌, Bool, true, false, not, List, [], ◌∷◌, length, set, replicate, Option, Some, None, is_some, slice_get, option_and_then, arith}
use Rattle.spdx_core.specs.declared.certificates.verdict.Hit.{Hit}
use Rattle.spdx_core.specs.certificates.Certificates.{has_hit}
use Rattle.check_verify.specs.Terms.{is_among, kept_at}
use Rattle.check_verify.proofs.Choices.{Has, among_has, has_among}

abbrev is_hit : Option (Option Hit) → Bool
is_hit found = is_some (option_and_then (λ hit. hit) found)

length_set : {A : Type 0} (xs : List A) (i : ℕ) (x : A) → length (set xs i x) ≡ length xs
length_set [] i x = refl
length_set (y ∷ xs) zero x = refl
length_set (y ∷ xs) (suc i) x = ap suc (length_set xs i x)

-- what is at a place of a list that was changed at one
get_set : {A : Type 0} (xs : List A) (i j : ℕ) (x : A) → (slice_get (set xs i x) j ≡ slice_get xs j) ⊎ ((i ≡ j) × (slice_get (set xs i x) j ≡ Some x))
get_set [] i j x = inl refl
get_set (y ∷ xs) zero zero x = inr (refl, refl)
get_set (y ∷ xs) zero (suc j) x = inl refl
get_set (y ∷ xs) (suc i) zero x = inl refl
get_set (y ∷ xs) (suc i) (suc j) x = elim (get_set xs i j x) [ inl same ↦ inl same | inr here ↦ inr (ap suc here.0, here.1) ]

get_here : {A : Type 0} (xs : List A) (i : ℕ) (x : A) → i < length xs → slice_get (set xs i x) i ≡ Some x
get_here [] i x inside = absurd (omega arith)
get_here (y ∷ xs) zero x inside = refl
get_here (y ∷ xs) (suc i) x inside = get_here xs i x (omega arith)

-- ---- where some places are given a hit

none_kept : (n place : ℕ) → has_hit (replicate n None) place ≡ false
none_kept zero place = refl
none_kept (suc n) zero = refl
none_kept (suc n) (suc place) = none_kept n place

kept_from : (places : List ℕ) (items : List (Option Hit)) (place : ℕ) (hit : Hit) → has_hit (kept_at items places (Some hit)) place ≡ true
    → (has_hit items place ≡ true) ⊎ Has places place
kept_from [] items place hit e = inl e
kept_from (q ∷ places) items place hit e =
    elim (kept_from places (set items q (Some hit)) place hit e) [
      | inl before ↦ elim (get_set items q place (Some hit)) [
        | inl same ↦ inl (ap is_hit (sym same) ∙ before)
        | inr here ↦ inr (inl (sym here.0))
      ]
      | inr at ↦ inr (inr at)
    ]

kept_stays : (places : List ℕ) (items : List (Option Hit)) (place : ℕ) (hit : Hit) → has_hit items place ≡ true → has_hit (kept_at items places (Some hit)) place ≡ true
kept_stays [] items place hit e = e
kept_stays (q ∷ places) items place hit e =
    kept_stays places (set items q (Some hit)) place hit (elim (get_set items q place (Some hit)) [
      | inl same ↦ ap is_hit same ∙ e
      | inr here ↦ ap is_hit here.1
    ])

kept_given : (places : List ℕ) (items : List (Option Hit)) (place : ℕ) (hit : Hit) → Has places place → place < length items → has_hit (kept_at items places (Some hit)) place ≡ true
kept_given [] items place hit at inside = absurd at
kept_given (q ∷ places) items place hit (inl same) inside =
    kept_stays places (set items q (Some hit)) place hit (subst (λ (p : ℕ). has_hit (set items p (Some hit)) place ≡ true) same (ap is_hit (get_here items place (Some hit) inside)))
kept_given (q ∷ places) items place hit (inr at) inside =
    kept_given places (set items q (Some hit)) place hit at (subst (λ (n : ℕ). place < n) (sym (length_set items q (Some hit))) inside)

length_replicate : {A : Type 0} (n : ℕ) (x : A) → length (replicate n x) ≡ n
length_replicate zero x = refl
length_replicate (suc n) x = ap suc (length_replicate n x)

both_ways : false ≡ true → ⊥
both_ways e = absurd cc

-- just the places have a hit
pub hits_inside : (n : ℕ) (places : List ℕ) (hit : Hit) (place : ℕ) → has_hit (kept_at (replicate n None) places (Some hit)) place ≡ true → is_among places place ≡ true
hits_inside n places hit place e =
    elim (kept_from places (replicate n None) place hit e) [
      | inl before ↦ absurd (both_ways (sym (none_kept n place) ∙ before))
      | inr at ↦ has_among places place at
    ]

pub hits_given : (n : ℕ) (places : List ℕ) (hit : Hit) (place : ℕ) → is_among places place ≡ true → place < n → has_hit (kept_at (replicate n None) places (Some hit)) place ≡ true
hits_given n places hit place at inside =
    kept_given places (replicate n None) place hit (among_has places place at) (subst (λ (k : ℕ). place < k) (sym (length_replicate {A = Option Hit} n None)) inside)

-- ---- where some places lose their hit

all_kept : (n place : ℕ) (hit : Hit) → place < n → has_hit (replicate n (Some hit)) place ≡ true
all_kept zero place hit inside = absurd (omega arith)
all_kept (suc n) zero hit inside = refl
all_kept (suc n) (suc place) hit inside = all_kept n place hit (omega arith)

lost_stays : (places : List ℕ) (items : List (Option Hit)) (place : ℕ) → has_hit items place ≡ false → has_hit (kept_at items places None) place ≡ false
lost_stays [] items place e = e
lost_stays (q ∷ places) items place e =
    lost_stays places (set items q None) place (elim (get_set items q place None) [
      | inl same ↦ ap is_hit same ∙ e
      | inr here ↦ ap is_hit here.1
    ])

lost_at : (places : List ℕ) (items : List (Option Hit)) (place : ℕ) → Has places place → place < length items → has_hit (kept_at items places None) place ≡ false
lost_at [] items place at inside = absurd at
lost_at (q ∷ places) items place (inl same) inside =
    lost_stays places (set items q None) place (subst (λ (p : ℕ). has_hit (set items p None) place ≡ false) same (ap is_hit (get_here items place None inside)))
lost_at (q ∷ places) items place (inr at) inside =
    lost_at places (set items q None) place at (subst (λ (n : ℕ). place < n) (sym (length_set items q None)) inside)

not_lost : (places : List ℕ) (items : List (Option Hit)) (place : ℕ) → (Has places place → ⊥) → has_hit items place ≡ true → has_hit (kept_at items places None) place ≡ true
not_lost [] items place other e = e
not_lost (q ∷ places) items place other e =
    not_lost places (set items q None) place (λ at. other (inr at)) (elim (get_set items q place None) [
      | inl same ↦ ap is_hit same ∙ e
      | inr here ↦ absurd (other (inl (sym here.0)))
    ])

hits_by : (n : ℕ) (places : List ℕ) (hit : Hit) (place : ℕ) → place < n → (b : Bool) → is_among places place ≡ b → has_hit (kept_at (replicate n (Some hit)) places None) place ≡ not b
hits_by n places hit place inside true at =
    lost_at places (replicate n (Some hit)) place (among_has places place at) (subst (λ (k : ℕ). place < k) (sym (length_replicate n (Some hit))) inside)
hits_by n places hit place inside false other =
    not_lost places (replicate n (Some hit)) place (λ at. both_ways (sym other ∙ has_among places place at)) (all_kept n place hit inside)

-- all but the places have a hit
pub hits_outside : (n : ℕ) (places : List ℕ) (hit : Hit) (place : ℕ) → place < n → has_hit (kept_at (replicate n (Some hit)) places None) place ≡ not (is_among places place)
hits_outside n places hit place inside = hits_by n places hit place inside (is_among places place) refl
