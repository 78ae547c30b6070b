-- A certificate is that of the judgement.
use Rattle.std.proofs.Common.{◌≡◌, ◌∙◌, refl, sym, ap, subst, ℕ, Bool, true, false, IsTrue, List, Option, Some, None, Result, Ok, Err, IfOk}
use Rattle.std.specs.Prelude.{◌↔◌}
use Rattle.std.proofs.lemmas.Bool.{cond-true, cond-false}
use Rattle.std.specs.declared.alloc.AllocError.{AllocError}
use Rattle.spdx_core.specs.Grammar.{ExpressionTree}
use Rattle.spdx_core.specs.Reading.{ExpressionView}
use Rattle.graph_core.specs.Krate.{CrateRecord}
use Rattle.spdx_core.specs.declared.certificates.verdict.Hit.{Hit}
use Rattle.spdx_core.specs.declared.certificates.verdict.Verdict.{Verdict}
use Rattle.spdx_core.specs.declared.certificates.verdict.Verdict.TheVariants.{Skipped, Unlicensed, Accepted, Rejected}
use Rattle.spdx_core.specs.certificates.Certificates.{CertificateAnswers, has_hit}
use Rattle.spdx_core.specs.certificates.Choices.{first_choice, is_accepted}
use Rattle.spdx_core.proofs.certificates.LawLemmas.{no_choice}
use Rattle.policy_core.specs.valid.Policy.{IsPrivate, Policy}
use Rattle.check_core.specs.evaluate.Evaluation.{is_allowed, term_hits}
use Rattle.check_core.specs.declared.crate_check.JudgedCrate.{JudgedCrate}
use Rattle.check_core.specs.Verdicts.{accepted, rejected, IsCertifiedOrUnlicensed, IsCertified, IsVerdictShown, IsVerdict, is_skipped, judgement_in, judgement_of, verdict_of}

-- what was kept is what the policy says of each term
pub certified : (policy : Policy) (counted : List ℕ) (expression : ExpressionView) (kept : List (Option Hit)) (verdict : Verdict) → kept ≡ term_hits policy counted expression.terms
    → CertificateAnswers kept expression.tree (Ok verdict) → IsCertified policy counted expression verdict
certified policy counted expression kept Skipped is shows = absurd shows
certified policy counted expression kept Unlicensed is shows = absurd shows
certified policy counted expression kept (Accepted choice hits) is shows =
    subst (λ (l : List (Option Hit)). CertificateAnswers l expression.tree (Ok (Accepted choice hits))) is shows
certified policy counted expression kept (Rejected least blocks) is shows =
    subst (λ (l : List (Option Hit)). CertificateAnswers l expression.tree (Ok (Rejected least blocks))) is shows

-- ---- the judgement in a certificate

accepted_by : (has_hit : ℕ → Bool) (tree : ExpressionTree) (choice : List ℕ) (b : Bool) → is_accepted has_hit tree ≡ b → first_choice has_hit tree ≡ Some choice → is_accepted has_hit tree ≡ true
accepted_by has_hit tree choice true is first = is
accepted_by has_hit tree choice false is first = let none : None ≡ Some choice = sym (no_choice has_hit tree is) ∙ first in cc

answered_is : (policy : Policy) (counted : List ℕ) (expression : Option ExpressionView) (verdict : Verdict) → IsCertifiedOrUnlicensed policy counted expression verdict
    → (judgement_in verdict ≡ judgement_of policy counted expression) × (is_skipped verdict ≡ false)
answered_is policy counted None verdict is = (ap judgement_in is, ap is_skipped is)
answered_is policy counted (Some expression) Skipped shows = absurd shows
answered_is policy counted (Some expression) Unlicensed shows = absurd shows
answered_is policy counted (Some expression) (Accepted choice hits) shows =
    let hit = has_hit (term_hits policy counted expression.terms) in
    let is : is_allowed policy counted expression.terms expression.tree ≡ true = accepted_by hit expression.tree choice (is_accepted hit expression.tree) refl shows.first in
    (sym (cond-true (is_allowed policy counted expression.terms expression.tree) accepted rejected is), refl)
answered_is policy counted (Some expression) (Rejected least blocks) shows =
    (sym (cond-false (is_allowed policy counted expression.terms expression.tree) accepted rejected shows.not_accepted), refl)

-- ---- verdicts

pub skipped_verdict : (policy : Policy) (krate : CrateRecord) (counted : List ℕ) (expression : Option ExpressionView) (private : Bool) (verdict : Verdict) → IsTrue private ↔ IsPrivate policy krate → private ≡ true
    → verdict ≡ Skipped → IsVerdict policy krate counted expression verdict
skipped_verdict policy krate counted expression private verdict tells passed is = record {
  judged = record {
    private = private;
    tells = tells;
    is = ap judgement_in is ∙ sym (ap (λ (b : Bool). verdict_of b policy counted expression) passed);
  };
  shown = subst (λ (v : Verdict). IsVerdictShown (is_skipped v) policy counted expression v) (sym is) refl;
}

pub answered_verdict : (policy : Policy) (krate : CrateRecord) (counted : List ℕ) (expression : Option ExpressionView) (private : Bool) (verdict : Verdict) → IsTrue private ↔ IsPrivate policy krate → private ≡ false
    → IsCertifiedOrUnlicensed policy counted expression verdict → IsVerdict policy krate counted expression verdict
answered_verdict policy krate counted expression private verdict tells asked answered =
    let told = answered_is policy counted expression verdict answered in
    record {
      judged = record {
        private = private;
        tells = tells;
        is = told.0 ∙ sym (ap (λ (b : Bool). verdict_of b policy counted expression) asked);
      };
      shown = subst (λ (s : Bool). IsVerdictShown s policy counted expression verdict) (sym told.1) answered;
    }

pub answered_not_skipped : (policy : Policy) (counted : List ℕ) (expression : Option ExpressionView) (verdict : Verdict) → IsCertifiedOrUnlicensed policy counted expression verdict → is_skipped verdict ≡ false
answered_not_skipped policy counted expression verdict answered = (answered_is policy counted expression verdict answered).1

-- of a crate that was asked, unless memory was short
pub answered_check : (policy : Policy) (krate : CrateRecord) (counted : List ℕ) (expression : Option ExpressionView) (private : Bool) → IsTrue private ↔ IsPrivate policy krate → private ≡ false
    → (result : Result JudgedCrate AllocError) → IfOk result (λ judged. IsCertifiedOrUnlicensed policy counted expression judged.report.verdict)
    → IfOk result (λ judged. IsVerdict policy krate counted expression judged.report.verdict)
answered_check policy krate counted expression private tells asked (Ok judged) answered = answered_verdict policy krate counted expression private judged.report.verdict tells asked answered
answered_check policy krate counted expression private tells asked (Err error) none = tt
