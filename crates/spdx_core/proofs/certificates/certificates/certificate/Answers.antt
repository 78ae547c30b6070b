use Rattle.std.proofs.Common.{◌∙◌, sym, ap, reverse}
use Rattle.std.specs.Prelude.{filter_map}
use Rattle.spdx_core.specs.certificates.Certificates.{hit_at}
use Rattle.spdx_core.specs.certificates.Stack.{first_of}
use Rattle.spdx_core.specs.declared.certificates.walk.Walk.TheVariants.{Choice, Blocks}
use Rattle.spdx_core.proofs.certificates.CertificateLemmas.{shows_accepted, shows_rejected, marked_nodes, walked_marks}
use Rattle.spdx_core.proofs.certificates.certificates.certificate.Goals as goal

pub returns-then-take_off-eq0 : goal.returns-then-take_off-eq0
returns-then-take_off-eq0 c =
    let kept = c.args.kept.now in
    let tree = c.args.expression.now.tree in
    let marked = marked_nodes kept tree c.nodes.result.now _ c.nodes.ensures.nodes c.in_ok-marking.ensures in
    let choice = walked_marks kept Choice tree c.deref.result.now _ (ap reverse c.deref.ensures.value ∙ ap (λ m. m.marks) marked) c.in_ok-choice.ensures in
    let count = c.take_off.ensures.item ∙ ap (λ m. first_of 0 m.counts) marked in
    shows_accepted kept tree c.in_ok-choice.choice c.from.result (sym count ∙ c.if-take_off-eq0.true) choice (c.from.ensures ∙ c.in_ok-hits.ensures ∙ ap (λ places. filter_map (hit_at kept) places) c.items.ensures)

pub returns : goal.returns
returns c =
    let kept = c.args.kept.now in
    let tree = c.args.expression.now.tree in
    let marked = marked_nodes kept tree c.nodes.result.now _ c.nodes.ensures.nodes c.in_ok-marking.ensures in
    let count = c.take_off.ensures.item ∙ ap (λ m. first_of 0 m.counts) marked in
    shows_rejected kept tree _ _ _ c.nodes.ensures.facts.places
    (λ none. c.if-take_off-eq0.false (count ∙ none))
    (walked_marks kept Choice tree c.deref.result.now _ (ap reverse c.deref.ensures.value ∙ ap (λ m. m.marks) marked) c.in_ok-choice.ensures)
    (walked_marks kept Blocks tree c.deref-else-take_off-eq0.result.now _ (ap reverse c.deref-else-take_off-eq0.ensures.value ∙ ap (λ m. m.marks) marked) c.in_ok-blocks.ensures)
