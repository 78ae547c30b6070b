use Rattle.std.proofs.Common.{◌∙◌, sym, ap, length, Some, None}
use Rattle.spdx_core.specs.declared.certificates.verdict.Hit.TheVariants.{Allowed}
use Rattle.check_verify.specs.Terms.{kept_at}
use Rattle.check_verify.proofs.Places.{not_rejected, rejected_meets}
use Rattle.check_verify.proofs.certificates.meet_each.Goals as goal

pub returns-in-Rejected : goal.returns-in-Rejected
returns-in-Rejected c =
    let terms = c.requirements.result.now in
    let numbered = c.requirements.ensures.facts.places ∙ ap (λ own. Some (length own)) (sym c.requirements.ensures.terms) in
    let kept = c.as_slice.ensures.value ∙ c.keep_at.ensures ∙ ap (λ list. kept_at list c.args.places.now None) c.in_ok-kept.ensures in
    rejected_meets (length terms) c.args.expr.now.tree c.args.places.now (Allowed 0) numbered c.as_slice.result.now kept c.in_ok-verdict.verdict c.in_ok-verdict.ensures
    c.in-Rejected.least c.in-Rejected.blocks c.in-Rejected.is

pub returns : goal.returns
returns c =
    let terms = c.requirements.result.now in
    let numbered = c.requirements.ensures.facts.places ∙ ap (λ own. Some (length own)) (sym c.requirements.ensures.terms) in
    let kept = c.as_slice.ensures.value ∙ c.keep_at.ensures ∙ ap (λ list. kept_at list c.args.places.now None) c.in_ok-kept.ensures in
    not_rejected (length terms) c.args.expr.now.tree c.args.places.now (Allowed 0) numbered c.as_slice.result.now kept c.in_ok-verdict.verdict c.in_ok-verdict.ensures c.in_default.not-Rejected
