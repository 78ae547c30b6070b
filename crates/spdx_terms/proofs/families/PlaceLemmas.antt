-- Places of a family in a list.
use Rattle.std.proofs.Common.{◌≡◌, ◌∙◌, refl, sym, ap, subst, ℕ, zero, suc, ◌+◌, ◌<◌, ◌≤◌, Bool, true, false, cond, eqb, List, [], ◌∷◌, ◌++◌, length, get_or, slice_get, Some, None, arith}
use Rattle.std.specs.Prelude.{◌↔◌, Contains}
use Rattle.std.specs.Bool.{Decides}
use Rattle.std.specs.List.{filter}
use Rattle.std.proofs.lemmas.Bool.Decides.{Decides-eqb, Decides-like}
use Rattle.spdx_terms.specs.declared.term.Family.{Family}
use Rattle.spdx_terms.specs.declared.term.Family.TheVariants.{Spdx as of_licenses, Reference as of_references}
use Rattle.spdx_terms.specs.families.Laws.{RiseFrom}
use Rattle.spdx_terms.specs.families.Places.{same_family, places_from, places_in}

-- ---- the test

pub decides : (one other : Family) → Decides (same_family one other) (one ≡ other)
decides (of_licenses one) (of_licenses other) =
    Decides-like (eqb one other) (λ (h : one ≡ other). ap of_licenses h) (λ (h : of_licenses one ≡ of_licenses other). cc) (Decides-eqb one other)
decides (of_licenses one) of_references = (λ h. absurd (cc h), λ h. absurd (cc h))
decides of_references (of_licenses other) = (λ h. absurd (cc h), λ h. absurd (cc h))
decides of_references of_references = (λ h. refl, λ h. refl)

-- ---- a further family

more_to_come : (n m : ℕ) → suc n + m ≡ n + suc m
more_to_come n m = omega arith

none_to_come : (n : ℕ) → n ≡ n + 0
none_to_come n = omega arith

from_zero : (n : ℕ) → 0 + n ≡ n
from_zero n = omega arith

-- the place of one family at a number, where it is the one that is asked for
abbrev own_place : Family → Family → ℕ → List ℕ
own_place family here n = cond (same_family family here) (n ∷ []) []

places_from-push : (n : ℕ) (family : Family) (families : List Family) (last : Family)
    → places_from n family (families ++ last ∷ []) ≡ places_from n family families ++ own_place family last (n + length families)
places_from-push n family [] last = ap (own_place family last) (none_to_come n)
places_from-push n family (here ∷ more) last =
    let rest : places_from (suc n) family (more ++ last ∷ []) ≡ places_from (suc n) family more ++ own_place family last (n + suc (length more)) =
    places_from-push (suc n) family more last ∙ ap (λ m. places_from (suc n) family more ++ own_place family last m) (more_to_come n (length more)) in
    elim (same_family family here) as (λ b. cond b (n ∷ places_from (suc n) family (more ++ last ∷ [])) (places_from (suc n) family (more ++ last ∷ []))
    ≡ cond b (n ∷ places_from (suc n) family more) (places_from (suc n) family more) ++ own_place family last (n + suc (length more))) [
      | true ↦ ap (λ places. n ∷ places) rest
      | false ↦ rest
    ]

pub places_in-push : (family : Family) (families : List Family) (last : Family)
    → places_in family (families ++ last ∷ []) ≡ places_in family families ++ cond (same_family family last) (length families ∷ []) []
places_in-push family families last = places_from-push 0 family families last ∙ ap (λ n. places_in family families ++ own_place family last n) (from_zero (length families))

-- ---- few families

pub few_places : (family only : Family) (families : List Family) → length families ≤ 1 → Some only ≡ slice_get families 0
    → cond (same_family family only) (0 ∷ []) [] ≡ places_in family families
few_places family only [] few is = absurd (cc is)
few_places family only (here ∷ []) few is = let same : only ≡ here = cc is in ap (λ f. cond (same_family family f) (0 ∷ []) []) same
few_places family only (here ∷ other ∷ more) few is = absurd (omega arith)

pub no_places : (family : Family) (families : List Family) → None ≡ slice_get families 0 → [] ≡ places_in family families
no_places family [] is = refl
no_places family (here ∷ more) is = absurd (cc is)

-- ---- laws

there_later : (x : ℕ) (xs : List ℕ) (y : ℕ) → Contains xs y → Contains (x ∷ xs) y
there_later x xs y there = let below : there.0 < length xs = there.1 in (suc there.0, omega arith, there.2)

there_first : (x : ℕ) (xs : List ℕ) (y : ℕ) → x ≡ y → Contains (x ∷ xs) y
there_first x xs y is = (0, omega arith, is)

-- a family is somewhere, and the number is its place, counted from another on
abbrev StandsAt : ℕ → Family → List Family → ℕ → Type 0
StandsAt n family families place = (i : ℕ) × (place ≡ n + i) × (slice_get families i ≡ Some family)

stands_behind : (n : ℕ) (family here : Family) (more : List Family) (place : ℕ) → StandsAt (suc n) family more place → StandsAt n family (here ∷ more) place
stands_behind n family here more place at = let is : place ≡ suc n + at.0 = at.1 in (suc at.0, omega arith, at.2)

-- at the first place, or behind it
here_or_behind : (n : ℕ) (family here : Family) (more : List Family) (places : List ℕ) (place k : ℕ) → family ≡ here → (Contains places place → StandsAt (suc n) family more place)
    → k < length (n ∷ places) → get_or (n ∷ places) k place ≡ place → StandsAt n family (here ∷ more) place
here_or_behind n family here more places place zero same behind below is = let first : n ≡ place = is in (0, omega arith, ap Some (sym same))
here_or_behind n family here more places place (suc k) same behind below is =
    let within : k < length places = omega arith in stands_behind n family here more place (behind (k, within, is))

stands_from : (n : ℕ) (family : Family) (families : List Family) (place : ℕ) → Contains (places_from n family families) place → StandsAt n family families place
stands_from n family [] place there = let below : there.0 < 0 = there.1 in absurd (omega arith)
stands_from n family (here ∷ more) place stands = (elim (same_family family here) as (λ b. same_family family here ≡ b
    → Contains (cond b (n ∷ places_from (suc n) family more) (places_from (suc n) family more)) place → StandsAt n family (here ∷ more) place) [
      | true ↦ (λ same there. here_or_behind n family here more (places_from (suc n) family more) place there.0 ((decides family here).0 same)
          (stands_from (suc n) family more place) there.1 there.2)
      | false ↦ (λ other there. stands_behind n family here more place (stands_from (suc n) family more place there))
    ]) refl stands

found_from : (n : ℕ) (family : Family) (families : List Family) (i : ℕ) → slice_get families i ≡ Some family → Contains (places_from n family families) (n + i)
found_from n family [] i is = absurd (cc is)
found_from n family (here ∷ more) zero is =
    let same : here ≡ family = cc is in
    let n_is : n ≡ n + 0 = omega arith in
    let test : same_family family here ≡ true = (decides family here).1 (sym same) in
    subst (λ (b : Bool). Contains (cond b (n ∷ places_from (suc n) family more) (places_from (suc n) family more)) (n + 0)) (sym test) (there_first n (places_from (suc n) family more) (n + 0) n_is)
found_from n family (here ∷ more) (suc i) is =
    let next : suc n + i ≡ n + suc i = omega arith in
    let behind : Contains (places_from (suc n) family more) (n + suc i) =
    subst (λ (m : ℕ). Contains (places_from (suc n) family more) m) next (found_from (suc n) family more i is) in
    elim (same_family family here) as (λ b. Contains (cond b (n ∷ places_from (suc n) family more) (places_from (suc n) family more)) (n + suc i)) [
      | true ↦ there_later n (places_from (suc n) family more) (n + suc i) behind
      | false ↦ behind
    ]

at_place : (family : Family) (families : List Family) (place : ℕ) → StandsAt 0 family families place → slice_get families place ≡ Some family
at_place family families place at = ap (λ (m : ℕ). slice_get families m) (at.1 ∙ from_zero at.0) ∙ at.2

-- a number is among the places exactly where the family is there
pub stands : (family : Family) (families : List Family) (place : ℕ) → Contains (places_in family families) place ↔ (slice_get families place ≡ Some family)
stands family families place = (
  λ there. at_place family families place (stands_from 0 family families place there),
  λ is. subst (λ (m : ℕ). Contains (places_in family families) m) (from_zero place) (found_from 0 family families place is),
)

as_many_from : (n : ℕ) (family : Family) (families : List Family) → length (places_from n family families) ≡ length (filter (same_family family) families)
as_many_from n family [] = refl
as_many_from n family (here ∷ more) = elim (same_family family here) as (λ b. length (cond b (n ∷ places_from (suc n) family more) (places_from (suc n) family more))
    ≡ length (cond b (here ∷ filter (same_family family) more) (filter (same_family family) more))) [
      | true ↦ ap suc (as_many_from (suc n) family more)
      | false ↦ as_many_from (suc n) family more
    ]

pub as_many : (family : Family) (families : List Family) → length (places_in family families) ≡ length (filter (same_family family) families)
as_many family families = as_many_from 0 family families

-- what rises from a number on rises from each smaller one
rise_earlier : (n m : ℕ) (places : List ℕ) → n ≤ m → RiseFrom m places → RiseFrom n places
rise_earlier n m [] before rise = tt
rise_earlier n m (place ∷ more) before rise = (omega (arith, before, rise.0), rise.1)

rise_from : (n : ℕ) (family : Family) (families : List Family) → RiseFrom n (places_from n family families)
rise_from n family [] = tt
rise_from n family (here ∷ more) = elim (same_family family here) as (λ b. RiseFrom n (cond b (n ∷ places_from (suc n) family more) (places_from (suc n) family more))) [
  | true ↦ (omega arith, rise_from (suc n) family more)
  | false ↦ rise_earlier n (suc n) (places_from (suc n) family more) (omega arith) (rise_from (suc n) family more)
]

pub rise : (family : Family) (families : List Family) → RiseFrom 0 (places_in family families)
rise family families = rise_from 0 family families
