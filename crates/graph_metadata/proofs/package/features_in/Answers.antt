-- One feature more, the first fault, and the end.
use Rattle.std.proofs.Common.{sym, subst, ◌∙◌}
use Rattle.std.proofs.lemmas.Result.{err_from_is_err_and}
use Rattle.graph_metadata.specs.Told.{Fails}
use Rattle.graph_metadata.proofs.FeatureLemmas.{features-next, features-fail, features-end}
use Rattle.graph_metadata.proofs.package.features_in.Goals as goal

pub returns-in_err-texts : goal.returns-in_err-texts
returns-in_err-texts c =
    let p = err_from_is_err_and c.from_residual.result c.from_residual.ensures.1 in
    rw (p.1, p.2)
    (subst (Fails c.in_err-texts.field-0.0) (sym c.features.invariant)
    (features-fail c.args.index c.features.features c.features.name-iterator c.in-Some.name.now c.in-Some.value.now
    c.next.new.self c.as_str.result.now c.in_err-texts.field-0.0 c.in-Some.ensures.steps c.as_str.ensures.value
    c.in_err-texts.ensures))

pub features-preserved-in_ok-insert : goal.features-preserved-in_ok-insert
features-preserved-in_ok-insert c =
    c.features.invariant
    ∙ features-next c.args.index c.features.features c.features.name-iterator c.in-Some.name.now c.in-Some.value.now
    c.next.new.self c.as_str.result.now c.in_ok-copy.field-0 c.in_ok-texts.texts c.insert.new.self c.in-Some.ensures.steps
    c.as_str.ensures.value (c.in_ok-copy.ensures ∙ c.as_str-in-features.ensures.value) c.in_ok-texts.ensures
    c.in_ok-insert.ensures.ok

pub features-preserved : goal.features-preserved
features-preserved c =
    c.features.invariant
    ∙ features-next c.args.index c.features.features c.features.name-iterator c.in-Some.name.now c.in-Some.value.now
    c.next.new.self c.as_str.result.now c.in_ok-copy.field-0 c.in_ok-texts.texts c.insert.new.self c.in-Some.ensures.steps
    c.as_str.ensures.value (c.in_ok-copy.ensures ∙ c.as_str-in-features.ensures.value) c.in_ok-texts.ensures
    c.in_ok-insert.ensures.ok

pub returns : goal.returns
returns c =
    c.features.invariant
    ∙ features-end c.args.index c.features.features c.features.name-iterator c.in-None.ensures.steps.0
