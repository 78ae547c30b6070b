-- The first item of a list that passes a test.
use Rattle.std.proofs.Common.{◌≡◌, refl, ap, ℕ, zero, suc, ◌<◌, Bool, true, false, cond, ◌||◌, List, [], ◌∷◌, length, drop, get_or, Some, is_some, arith}
use Rattle.std.specs.List.{filter, list_any}
use Rattle.policy_parts.specs.spec.Index.{places_from, first_of}

module _ {A : Type 0} (test : A → Bool) where
  -- there is a first item that passes where any does
  pub found : (m : ℕ) (xs : List A) → is_some (first_of (places_from m test xs)) ≡ list_any test xs
  found m [] = refl
  found m (x ∷ xs) = elim (test x) as (λ b. is_some (first_of (cond b (m ∷ places_from (suc m) test xs) (places_from (suc m) test xs))) ≡ (b || list_any test xs)) [
    | true ↦ refl
    | false ↦ found (suc m) xs
  ]

-- ---- the walk over some places

pub first_here : (test : ℕ → Bool) (places : List ℕ) (i : ℕ) → i < length places → test (get_or places i 0) ≡ true
    → first_of (filter test (drop i places)) ≡ Some (get_or places i 0)
first_here test [] i inside here = absurd (omega arith)
first_here test (place ∷ more) zero inside here = ap (λ b. first_of (cond b (place ∷ filter test more) (filter test more))) here
first_here test (place ∷ more) (suc i) inside here = first_here test more i (omega arith) here
