-- The exceptions that count, one after another.
use Rattle.std.proofs.Common.{◌≡◌, ◌∙◌, refl, sym, ap, ℕ, ◌+◌, ◌<◌, ◌≤◌, List, drop, length, get_or, Option, Some, None}
use Rattle.std.specs.Option.{option_or}
use Rattle.std.proofs.lemmas.List.{at_drop_all, drop_more}
use Rattle.spdx_terms.specs.declared.term.LicenseReq.{LicenseReq}
use Rattle.spdx_core.specs.declared.certificates.verdict.Hit.{Hit}
use Rattle.policy_core.specs.valid.Policy.{Grant, exception_hit, granted_hit}

pub none_of : {A : Type 0} (found : Option A) → ((x : A) → found ≡ Some x → ⊥) → found ≡ None
none_of None other = refl
none_of (Some x) other = absurd (other x refl)

module _ (exceptions : List Grant) (term : LicenseReq) (places : List ℕ) (i : ℕ) where
  abbrev from_here : Option Hit → Option Hit
  from_here hit = option_or hit (granted_hit exceptions (drop (i + 1) places) term)

  granted_from : (hit : Option Hit) → i < length places → hit ≡ exception_hit exceptions (get_or places i 0) term → from_here hit ≡ granted_hit exceptions (drop i places) term
  granted_from hit inside is = ap from_here is ∙ sym (ap (λ (l : List ℕ). granted_hit exceptions l term) (drop_more places i 0 inside))

  -- an exception without a hit is passed
  pub passed_exception : (hit : Option Hit) → i < length places → hit ≡ exception_hit exceptions (get_or places i 0) term → hit ≡ None
      → granted_hit exceptions (drop (i + 1) places) term ≡ granted_hit exceptions (drop i places) term
  passed_exception hit inside is none = sym (ap from_here none) ∙ granted_from hit inside is

  -- one that has a hit ends the walk
  pub exception_here : (hit : Option Hit) (found : Hit) → i < length places → hit ≡ exception_hit exceptions (get_or places i 0) term → hit ≡ Some found
      → Some found ≡ granted_hit exceptions (drop i places) term
  exception_here hit found inside is some = sym (ap from_here some) ∙ granted_from hit inside is

  -- behind the last of them none is left
  pub no_exception_left : length places ≤ i → None ≡ granted_hit exceptions (drop i places) term
  no_exception_left past = sym (at_drop_all (λ (l : List ℕ). granted_hit exceptions l term) places i past)
