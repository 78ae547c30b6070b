use Rattle.std.proofs.Common.{◌∙◌, sym, ap, length, Some}
use Rattle.spdx_core.specs.declared.certificates.verdict.Hit.TheVariants.{Allowed}
use Rattle.check_verify.specs.Terms.{kept_at}
use Rattle.check_verify.proofs.Places.{accepted_choice, not_accepted}
use Rattle.check_verify.proofs.certificates.is_choice.Goals as goal

pub returns-in-Accepted : goal.returns-in-Accepted
returns-in-Accepted c =
    let terms = c.requirements.result.now in
    let numbered = c.requirements.ensures.facts.places ∙ ap (λ own. Some (length own)) (sym c.requirements.ensures.terms) in
    let kept = c.as_slice.ensures.value ∙ c.keep_at.ensures ∙ ap (λ list. kept_at list c.args.places.now (Some (Allowed 0))) c.in_ok-kept.ensures in
    accepted_choice (length terms) c.args.expr.now.tree c.args.places.now (Allowed 0) numbered c.as_slice.result.now kept c.in_ok-verdict.verdict c.in_ok-verdict.ensures
    c.in-Accepted.choice c.items.result.now c.in-Accepted.hits c.in-Accepted.is c.items.ensures c.eq.result c.eq.ensures

pub returns : goal.returns
returns c =
    let terms = c.requirements.result.now in
    let numbered = c.requirements.ensures.facts.places ∙ ap (λ own. Some (length own)) (sym c.requirements.ensures.terms) in
    let kept = c.as_slice.ensures.value ∙ c.keep_at.ensures ∙ ap (λ list. kept_at list c.args.places.now (Some (Allowed 0))) c.in_ok-kept.ensures in
    not_accepted (length terms) c.args.expr.now.tree c.args.places.now (Allowed 0) numbered c.as_slice.result.now kept c.in_ok-verdict.verdict c.in_ok-verdict.ensures c.in_default.not-Accepted
