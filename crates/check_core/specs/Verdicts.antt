-- The verdict on a crate.
use Rattle.std.specs.Prelude.{◌≡◌, ◌↔◌, ℕ, List, Bool, true, false, IsTrue, Option, Some, None, if◌then◌else◌}
use Rattle.spdx_core.specs.Reading.{ExpressionView}
use Rattle.graph_core.specs.Krate.{CrateRecord}
use Rattle.spdx_core.specs.declared.certificates.verdict.Verdict.{Verdict}
use Rattle.spdx_core.specs.declared.certificates.verdict.Verdict.TheVariants.{Skipped, Unlicensed, Accepted, Rejected}
use Rattle.spdx_core.specs.certificates.Certificates.{ShowsAccepted, ShowsRejected}
use Rattle.policy_core.specs.valid.Policy.{IsPrivate, Policy}
use Rattle.check_core.specs.evaluate.Evaluation.{is_allowed, term_hits}

-- a verdict without what shows it
pub data Judgement : Type 0 where
  skipped : Judgement
  unlicensed : Judgement
  accepted : Judgement
  rejected : Judgement

-- Of a crate that is not passed over: whether its expression is allowed, where it has one, by the places of the
-- exceptions that count for the crate.
abbrev pub judgement_of : Policy → List ℕ → Option ExpressionView → Judgement
judgement_of policy counted None = unlicensed
judgement_of policy counted (Some expression) =
    if is_allowed policy counted expression.terms expression.tree then accepted else rejected

-- a crate that is passed over is skipped, also where it has no expression
abbrev pub verdict_of : Bool → Policy → List ℕ → Option ExpressionView → Judgement
verdict_of true policy counted expression = skipped
verdict_of false policy counted expression = judgement_of policy counted expression

-- what a crate is judged by: whether the policy passes it over, the exceptions that count for it, and its expression
pub record IsJudged (policy : Policy) (krate : CrateRecord) (counted : List ℕ) (expression : Option ExpressionView)
    (judgement : Judgement) : Type 0 where
  pub private : Bool
  pub tells : IsTrue private ↔ IsPrivate policy krate
  pub is : judgement ≡ verdict_of private policy counted expression

-- ---- with what shows it

abbrev pub judgement_in : Verdict → Judgement
judgement_in Skipped = skipped
judgement_in Unlicensed = unlicensed
judgement_in (Accepted choice hits) = accepted
judgement_in (Rejected least blocks) = rejected

abbrev pub is_skipped : Verdict → Bool
is_skipped Skipped = true
is_skipped Unlicensed = false
is_skipped (Accepted choice hits) = false
is_skipped (Rejected least blocks) = false

-- an accepted expression is shown by its first allowed choice, a rejected one by what stands in the way
abbrev pub IsCertified : Policy → List ℕ → ExpressionView → Verdict → Type 0
IsCertified policy counted expression Skipped = ⊥
IsCertified policy counted expression Unlicensed = ⊥
IsCertified policy counted expression (Accepted choice hits) =
    ShowsAccepted (term_hits policy counted expression.terms) expression.tree choice hits
IsCertified policy counted expression (Rejected least blocks) =
    ShowsRejected (term_hits policy counted expression.terms) expression.tree least blocks

-- of a crate that is not passed over
abbrev pub IsCertifiedOrUnlicensed : Policy → List ℕ → Option ExpressionView → Verdict → Type 0
IsCertifiedOrUnlicensed policy counted None verdict = verdict ≡ Unlicensed
IsCertifiedOrUnlicensed policy counted (Some expression) verdict = IsCertified policy counted expression verdict

-- a skipped crate has nothing that would show it
abbrev pub IsVerdictShown : Bool → Policy → List ℕ → Option ExpressionView → Verdict → Type 0
IsVerdictShown true policy counted expression verdict = verdict ≡ Skipped
IsVerdictShown false policy counted expression verdict = IsCertifiedOrUnlicensed policy counted expression verdict

-- a verdict is that on a crate, by the exceptions that count for it, and has what shows it
pub record IsVerdict (policy : Policy) (krate : CrateRecord) (counted : List ℕ) (expression : Option ExpressionView)
    (verdict : Verdict) : Type 0 where
  pub judged : IsJudged policy krate counted expression (judgement_in verdict)
  pub shown : IsVerdictShown (is_skipped verdict) policy counted expression verdict
