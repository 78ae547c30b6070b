-- Hits, and which entries of a policy are reported to be none, in other words than the packs.
use Rattle.std.specs.Prelude.{◌≡◌, ◌↔◌, ◌⊎◌, ℕ, false, List, [], ◌∷◌, Some, Any}
use Rattle.std.specs.List.{AllZip}
use Rattle.spdx_terms.specs.declared.term.ExpressionReq.{ExpressionReq}
use Rattle.spdx_core.specs.declared.certificates.verdict.Hit.{Hit}
use Rattle.spdx_core.specs.declared.certificates.verdict.Hit.TheVariants.{Allowed, Exception}
use Rattle.spdx_core.specs.declared.certificates.verdict.Verdict.{Verdict}
use Rattle.gather_core.specs.declared.findings.license.LicenseExprInfo.{LicenseExprInfo}
use Rattle.gather_core.specs.declared.findings.license.LicenseInfo.{LicenseInfo}
use Rattle.gather_core.specs.declared.findings.license.LicenseInfo.TheVariants.{SpdxExpression, Unlicensed}
use Rattle.policy_core.specs.declared.valid.policy.ValidConfig.{ValidConfig}
use Rattle.policy_core.specs.valid.Policy.{Policy, hit_of}
use Rattle.policy_core.specs.valid.View.{policy_of}
use Rattle.check_core.specs.evaluate.Evaluation.{term_hits}
use Rattle.check_core.specs.findings.Findings.{term_label, term_labels}
use Rattle.check_core.specs.unused.Laws.{ExceptionIsHit, LicenseIsHit, TellUnused}
use Rattle.check_core.specs.unused.Unused.{unused_findings}
use Rattle.check_core.specs.Check.{all_hits}
use Rattle.check_core.specs.Turns.{GatheredCrate}
use Rattle.check_core.specs.Verdicts.{is_skipped}

-- each term of a crate's expression is reported at its own place by what allows it
abbrev pub TermsAreTold : Type 0
TermsAreTold = (policy : Policy) (counted : List ℕ) (nfo : LicenseExprInfo) (terms : List ExpressionReq)
    → AllZip (λ term label. label ≡ term_label nfo term.span (hit_of policy counted term.req)) terms
    (term_labels nfo terms (term_hits policy counted terms))

-- ---- hits of crates

-- a crate's expression has a term that this allows
abbrev pub HasTerm : Policy → List ℕ → Hit → LicenseInfo → Type 0
HasTerm policy counted hit Unlicensed = ⊥
HasTerm policy counted hit (SpdxExpression expression nfo) =
    Any (λ (term : ExpressionReq). hit_of policy counted term.req ≡ Some hit) expression.terms

-- so has a crate that is not skipped
pub record Needs (policy : Policy) (hit : Hit) (asked : GatheredCrate) (verdict : Verdict) : Type 0 where
  pub asks : is_skipped verdict ≡ false
  pub term : HasTerm policy asked.exceptions hit asked.info

-- some crate does
abbrev pub IsNeeded : Policy → List GatheredCrate → List Verdict → Hit → Type 0
IsNeeded policy [] verdicts hit = ⊥
IsNeeded policy (asked ∷ more) [] hit = ⊥
IsNeeded policy (asked ∷ more) (verdict ∷ verdicts) hit =
    Needs policy hit asked verdict ⊎ IsNeeded policy more verdicts hit

-- After these crates the entries are reported that no crate needs: an allowed licensee is a hit just where some crate
-- that is not skipped has a term that it allows, whether or not the crate is accepted and a choice takes the term; an
-- exception, where one of its entries is.
pub record TellUnneeded (policy : ValidConfig) (asked : List GatheredCrate) (verdicts : List Verdict) : Type 0 where
  pub told : TellUnused policy (all_hits (policy_of policy) asked verdicts)
      (unused_findings policy (all_hits (policy_of policy) asked verdicts))
  pub licenses : (place : ℕ)
      → LicenseIsHit (all_hits (policy_of policy) asked verdicts) place
      ↔ IsNeeded (policy_of policy) asked verdicts (Allowed place)
  pub exceptions : (place : ℕ)
      → ExceptionIsHit (all_hits (policy_of policy) asked verdicts) place
      ↔ ((entry : ℕ) × IsNeeded (policy_of policy) asked verdicts (Exception place entry))

abbrev pub TellsTheUnneeded : Type 0
TellsTheUnneeded =
    (policy : ValidConfig) (asked : List GatheredCrate) (verdicts : List Verdict) → TellUnneeded policy asked verdicts
