-- What counts as a hit is just what allows a term of a crate that is not skipped.
use Rattle.std.proofs.Common.{◌≡◌, refl, sym, ap, subst, ℕ, zero, suc, ◌<◌, Bool, true, false, ◌⊎◌, inl, inr, List, [], ◌∷◌, ◌++◌, length, Option, Some, None, arith}
use Rattle.std.specs.Prelude.{Any, slice_index_or}
use Rattle.std.specs.Option.{option_to_list}
use Rattle.spdx_terms.specs.declared.term.ExpressionReq.{ExpressionReq}
use Rattle.spdx_core.specs.declared.certificates.verdict.Hit.{Hit}
use Rattle.spdx_core.specs.declared.certificates.verdict.Hit.TheVariants.{Allowed, Exception}
use Rattle.spdx_core.specs.declared.certificates.verdict.Verdict.{Verdict}
use Rattle.gather_core.specs.declared.findings.license.LicenseInfo.{LicenseInfo}
use Rattle.gather_core.specs.declared.findings.license.LicenseInfo.TheVariants.{SpdxExpression, Unlicensed}
use Rattle.policy_core.specs.valid.Policy.{Policy, hit_of}
use Rattle.policy_core.specs.valid.View.{policy_of}
use Rattle.check_core.specs.evaluate.Evaluation.{term_hits}
use Rattle.check_core.specs.unused.Unused.{hits_in}
use Rattle.check_core.proofs.unused.LawLemmas.{tells_the_unused}
use Rattle.check_core.specs.Check.{all_hits}
use Rattle.check_core.specs.Hits.{HasTerm, IsNeeded, Needs, TellsTheUnneeded, TermsAreTold}
use Rattle.check_core.specs.Turns.{GatheredCrate, hits_by, hits_of}
use Rattle.check_core.specs.Verdicts.{is_skipped}

pub terms_are_told : TermsAreTold
terms_are_told policy counted nfo [] = tt
terms_are_told policy counted nfo (term ∷ terms) = (refl, terms_are_told policy counted nfo terms)

-- ---- some item of a list

module _ {A : Type 0} (P : A → Type 0) where
  abbrev Among : List A → Type 0
  Among [] = ⊥
  Among (x ∷ xs) = P x ⊎ Among xs

  among_at : (xs : List A) (k : ℕ) (x : A) → k < length xs → slice_index_or xs k x ≡ x → P x → Among xs
  among_at [] k x below at p = absurd (omega arith)
  among_at (y ∷ xs) zero x below at p = inl (subst P (sym at) p)
  among_at (y ∷ xs) (suc k) x below at p = inr (among_at xs k x (omega arith) at p)

  among : (xs : List A) → Any P xs → Among xs
  among xs any = among_at xs any.0 any.1 any.2 any.3 any.4

  later : (y : A) (xs : List A) → Any P xs → Any P (y ∷ xs)
  later y xs any = (suc any.0, any.1, (let below : any.0 < length xs = any.2 in omega arith), any.3, any.4)

  somewhere : (xs : List A) → Among xs → Any P xs
  somewhere [] found = absurd found
  somewhere (y ∷ xs) (inl p) = (0, y, omega arith, refl, p)
  somewhere (y ∷ xs) (inr found) = later y xs (somewhere xs found)

  among_both : (xs ys : List A) → Among (xs ++ ys) → Among xs ⊎ Among ys
  among_both [] ys found = inr found
  among_both (x ∷ xs) ys (inl p) = inl (inl p)
  among_both (x ∷ xs) ys (inr found) = elim (among_both xs ys found) [
    | inl first ↦ inl (inr first)
    | inr second ↦ inr second
  ]

  among_first : (xs ys : List A) → Among xs → Among (xs ++ ys)
  among_first [] ys found = absurd found
  among_first (x ∷ xs) ys (inl p) = inl p
  among_first (x ∷ xs) ys (inr found) = inr (among_first xs ys found)

  among_second : (xs ys : List A) → Among ys → Among (xs ++ ys)
  among_second [] ys found = found
  among_second (x ∷ xs) ys found = inr (among_second xs ys found)

among_weaker : {A : Type 0} (P Q : A → Type 0) → ((x : A) → P x → Q x) → (xs : List A) → Among P xs → Among Q xs
among_weaker P Q weaker [] found = absurd found
among_weaker P Q weaker (x ∷ xs) (inl p) = inl (weaker x p)
among_weaker P Q weaker (x ∷ xs) (inr found) = inr (among_weaker P Q weaker xs found)

-- the item that it is
which : {A : Type 0} (P : A → Type 0) (xs : List A) → Among P xs → (x : A) × P x × Among (λ one. one ≡ x) xs
which P [] found = absurd found
which P (x ∷ xs) (inl p) = (x, p, inl refl)
which P (x ∷ xs) (inr found) = let rest = which P xs found in (rest.0, rest.1, inr rest.2)

-- ---- hits of terms

module _ (policy : Policy) (hit : Hit) where
  abbrev IsHit : List Hit → Type 0
  IsHit hits = Among (λ one. one ≡ hit) hits

  one_of : (found : Option Hit) → IsHit (option_to_list found) → found ≡ Some hit
  one_of None is = absurd is
  one_of (Some one) (inl same) = ap Some same
  one_of (Some one) (inr none) = absurd none

  term_of : (counted : List ℕ) (terms : List ExpressionReq) → IsHit (hits_in (term_hits policy counted terms)) → Among (λ (term : ExpressionReq). hit_of policy counted term.req ≡ Some hit) terms
  term_of counted [] is = absurd is
  term_of counted (term ∷ terms) is =
      elim (among_both (λ one. one ≡ hit) (option_to_list (hit_of policy counted term.req)) (hits_in (term_hits policy counted terms)) is) [
        | inl first ↦ inl (one_of (hit_of policy counted term.req) first)
        | inr second ↦ inr (term_of counted terms second)
      ]

  hit_in : (counted : List ℕ) (terms : List ExpressionReq) → Among (λ (term : ExpressionReq). hit_of policy counted term.req ≡ Some hit) terms → IsHit (hits_in (term_hits policy counted terms))
  hit_in counted [] found = absurd found
  hit_in counted (term ∷ terms) (inl is) =
      among_first (λ one. one ≡ hit) (option_to_list (hit_of policy counted term.req)) (hits_in (term_hits policy counted terms))
      (subst (λ (found : Option Hit). IsHit (option_to_list found)) (sym is) (inl refl))
  hit_in counted (term ∷ terms) (inr found) =
      among_second (λ one. one ≡ hit) (option_to_list (hit_of policy counted term.req)) (hits_in (term_hits policy counted terms)) (hit_in counted terms found)

  -- ---- of crates

  info_has : (counted : List ℕ) (info : LicenseInfo) → IsHit (hits_of policy counted info) → HasTerm policy counted hit info
  info_has counted Unlicensed is = absurd is
  info_has counted (SpdxExpression expression nfo) is =
      somewhere (λ (term : ExpressionReq). hit_of policy counted term.req ≡ Some hit) expression.terms (term_of counted expression.terms is)

  has_info : (counted : List ℕ) (info : LicenseInfo) → HasTerm policy counted hit info → IsHit (hits_of policy counted info)
  has_info counted Unlicensed has = absurd has
  has_info counted (SpdxExpression expression nfo) has =
      hit_in counted expression.terms (among (λ (term : ExpressionReq). hit_of policy counted term.req ≡ Some hit) expression.terms has)

  needs_by : (asked : GatheredCrate) (verdict : Verdict) (b : Bool) → is_skipped verdict ≡ b → IsHit (hits_by b policy asked) → Needs policy hit asked verdict
  needs_by asked verdict true skips is = absurd is
  needs_by asked verdict false skips is = record { asks = skips; term = info_has asked.exceptions asked.info is }

  hit_by_crate : (asked : GatheredCrate) (verdict : Verdict) → Needs policy hit asked verdict → IsHit (hits_by (is_skipped verdict) policy asked)
  hit_by_crate asked verdict needs = subst (λ (b : Bool). IsHit (hits_by b policy asked)) (sym needs.asks) (has_info asked.exceptions asked.info needs.term)

  needed : (asked : List GatheredCrate) (verdicts : List Verdict) → IsHit (all_hits policy asked verdicts) → IsNeeded policy asked verdicts hit
  needed [] verdicts is = absurd is
  needed (one ∷ more) [] is = absurd is
  needed (one ∷ more) (verdict ∷ verdicts) is =
      elim (among_both (λ one. one ≡ hit) (hits_by (is_skipped verdict) policy one) (all_hits policy more verdicts) is) [
        | inl first ↦ inl (needs_by one verdict (is_skipped verdict) refl first)
        | inr second ↦ inr (needed more verdicts second)
      ]

  hit_by_need : (asked : List GatheredCrate) (verdicts : List Verdict) → IsNeeded policy asked verdicts hit → IsHit (all_hits policy asked verdicts)
  hit_by_need [] verdicts need = absurd need
  hit_by_need (one ∷ more) [] need = absurd need
  hit_by_need (one ∷ more) (verdict ∷ verdicts) (inl needs) =
      among_first (λ one. one ≡ hit) (hits_by (is_skipped verdict) policy one) (all_hits policy more verdicts) (hit_by_crate one verdict needs)
  hit_by_need (one ∷ more) (verdict ∷ verdicts) (inr need) =
      among_second (λ one. one ≡ hit) (hits_by (is_skipped verdict) policy one) (all_hits policy more verdicts) (hit_by_need more verdicts need)

-- ---- of the policy's entries

abbrev IsEntryOf : ℕ → Hit → Type 0
IsEntryOf place one = (entry : ℕ) × (one ≡ Exception place entry)

exception_needed : (policy : Policy) (asked : List GatheredCrate) (verdicts : List Verdict) (place : ℕ) → Any (IsEntryOf place) (all_hits policy asked verdicts)
    → (entry : ℕ) × IsNeeded policy asked verdicts (Exception place entry)
exception_needed policy asked verdicts place is =
    let one = which (IsEntryOf place) (all_hits policy asked verdicts) (among (IsEntryOf place) (all_hits policy asked verdicts) is) in (
      one.1.0,
      needed policy (Exception place one.1.0) asked verdicts
          (subst (λ (hit : Hit). Among (λ one. one ≡ hit) (all_hits policy asked verdicts)) one.1.1 one.2),
    )

exception_hit : (policy : Policy) (asked : List GatheredCrate) (verdicts : List Verdict) (place : ℕ) → (entry : ℕ) × IsNeeded policy asked verdicts (Exception place entry)
    → Any (IsEntryOf place) (all_hits policy asked verdicts)
exception_hit policy asked verdicts place need =
    somewhere (IsEntryOf place) (all_hits policy asked verdicts)
    (among_weaker (λ one. one ≡ Exception place need.0) (IsEntryOf place) (λ one same. (need.0, same)) (all_hits policy asked verdicts)
    (hit_by_need policy (Exception place need.0) asked verdicts need.1))

pub tells_the_unneeded : TellsTheUnneeded
tells_the_unneeded policy asked verdicts =
    let valid = policy_of policy in
    let hits = all_hits valid asked verdicts in
    record {
      told = tells_the_unused policy hits;
      licenses = λ place. (
        λ is. needed valid (Allowed place) asked verdicts (among (λ one. one ≡ Allowed place) hits is),
        λ need. somewhere (λ one. one ≡ Allowed place) hits (hit_by_need valid (Allowed place) asked verdicts need),
      );
      exceptions = λ place. (exception_needed valid asked verdicts place, exception_hit valid asked verdicts place);
    }
