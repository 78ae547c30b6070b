use Rattle.std.proofs.Common.{◌∙◌, ap, ap₂, ◌≡◌, ℕ, Bool, List, Option}
use Rattle.spdx_core.specs.declared.certificates.verdict.Hit.{Hit}
use Rattle.policy_core.specs.valid.View.{policy_of}
use Rattle.check_core.specs.evaluate.Evaluation.{Evaluation, term_hits}
use Rattle.check_core.specs.findings.Findings as findings
use Rattle.check_core.specs.findings.Findings.{verdict_labels}
use Rattle.check_core.proofs.crate_check.Checker.certify.Goals as goal

pub returns-clause-told : goal.returns-clause-told
returns-clause-told g c =
    let license = c.args.license.now in
    let expression = c.args.expr.now in
    let nfo = c.args.nfo.now in
    let hits : c.hits-hits.result.now ≡ term_hits (policy_of c.args.policy.now) license.exceptions expression.terms =
    c.hits-hits.ensures ∙ ap (λ (e : Evaluation). e.hits) c.evaluate-accepted.ensures.evaluator in
    c.in_ok-told.ensures
    ∙ ap (λ (notes : List (List ℕ)). findings.expression_finding c.evaluate-accepted.result (verdict_labels expression nfo c.hits-hits.result.now) notes) c.items.ensures
    ∙ ap₂ (λ (accepted : Bool) (kept : List (Option Hit)). findings.expression_finding accepted (verdict_labels expression nfo kept) license.notes)
    c.evaluate-accepted.ensures.answer hits
