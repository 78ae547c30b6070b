use Rattle.std.proofs.Common.{◌≡◌, ◌≤◌, length, Some, IfSome, sym, subst, ◌∙◌}
use Rattle.deny_text.specs.Spans.{LiesIn}
use Rattle.gather_license.proofs.location.PlaceLemmas.{counted, none_counted, not_counted, value_cut_out}
use Rattle.gather_license.proofs.location.search.counted_at.Goals as goal

pub returns-in-Some-clause-value : goal.returns-in-Some-clause-value
returns-in-Some-clause-value c =
    counted c.args.text.now c.args.field.now c.in-Some.span (sym c.in-Some.is ∙ c.requires.value) (sym c.cuts_out.ensures ∙ c.if-cuts_out.true)

pub returns-in-Some-clause-cuts : goal.returns-in-Some-clause-cuts
returns-in-Some-clause-cuts c =
    let inside = subst (λ found. IfSome found (LiesIn c.args.text.now)) c.in-Some.is c.requires.inside in
    value_cut_out c.args.text.now c.args.field.now c.in-Some.span c.utf8.text (sym c.requires.value ∙ c.in-Some.is) inside.0
    (sym c.cuts_out.ensures ∙ c.if-cuts_out.true)

pub returns-in_default-clause-value : goal.returns-in_default-clause-value
returns-in_default-clause-value c =
    not_counted c.args.text.now c.args.field.now c.in-Some.span (sym c.in-Some.is ∙ c.requires.value) (sym c.cuts_out.ensures ∙ c.if-cuts_out.false)

pub returns-in_default-2-clause-value : goal.returns-in_default-2-clause-value
returns-in_default-2-clause-value c = none_counted c.args.text.now c.args.field.now (sym c.in_default.is ∙ c.requires.value)
