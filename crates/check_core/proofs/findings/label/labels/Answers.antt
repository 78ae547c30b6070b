use Rattle.std.proofs.Common.{List, subst, sym}
use Rattle.std.specs.List.{All}
use Rattle.spdx_terms.specs.declared.term.ExpressionReq.{ExpressionReq}
use Rattle.check_core.specs.findings.Places.{TermFits}
use Rattle.check_core.proofs.findings.PlaceLemmas.{terms_have_room}
use Rattle.check_core.proofs.findings.label.labels.Goals as goal

pub push_terms-requires : goal.push_terms-requires
push_terms-requires c =
    let expression = c.args.expression.now in
    subst (λ (terms : List ExpressionReq). All (TermFits c.args.nfo.now) terms) (sym c.requirements-terms.ensures.terms)
    (terms_have_room c.args.nfo.now expression.text expression.terms c.requirements-terms.ensures.facts.spans c.requires)
