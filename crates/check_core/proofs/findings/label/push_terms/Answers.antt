use Rattle.std.proofs.Common.{◌∙◌, sym, ap, subst, ◌+◌, List, [], ◌∷◌, ◌++◌, drop, Option}
use Rattle.std.proofs.lemmas.List.Elements.{All-get_or}
use Rattle.spdx_core.specs.declared.certificates.verdict.Hit.{Hit}
use Rattle.diag_core.specs.declared.label.Label.{Label}
use Rattle.check_core.specs.findings.Findings.{term_label, term_labels}
use Rattle.check_core.specs.findings.Places.{TermFits}
use Rattle.check_core.proofs.findings.LabelLemmas.{label_more}
use Rattle.check_core.proofs.findings.label.push_terms.Goals as goal

pub term_label-requires : goal.term_label-requires
term_label-requires c =
    let term = c.index-terms-place.result in
    subst (TermFits c.args.nfo.now) (sym c.index-terms-place.is) (All-get_or (TermFits c.args.nfo.now) c.args.terms.now c.terms.place term c.terms-test.true c.requires)

pub terms-preserved : goal.terms-preserved
terms-preserved c =
    let nfo = c.args.nfo.now in
    let terms = c.args.terms.now in
    let hits = c.args.hits.now in
    let place = c.terms.place in
    let term = c.index-terms-place.result in
    let rest = term_labels nfo (drop (place + 1) terms) (drop (place + 1) hits) in
    ap (λ (l : List Label). l ++ rest) (c.in_ok-push.ensures.ok ∙ ap (λ (label : Label). c.terms.labels ++ label ∷ []) c.in_ok-label.ensures)
    ∙ ap (λ (hit : Option Hit). (c.terms.labels ++ term_label nfo term.span hit ∷ []) ++ rest) c.hit_at-hit.ensures
    ∙ label_more nfo c.terms.labels place terms hits term c.terms-test.true c.index-terms-place.is
    ∙ c.terms.invariant
