use Rattle.std.proofs.Common.{◌-◌, length, sym, ap, ◌∙◌, rules, arith}
use Rattle.std.specs.Option.{option_map}
use Rattle.deny_text.specs.Spans.{moved_span}
use Rattle.diag_core.proofs.texts.SpanLemmas.{next_key, value_found, none_at_all}
use Rattle.diag_core.proofs.texts.span_search.license_span.Goals as goal

pub keys-preserved : goal.keys-preserved
keys-preserved c =
    let at = c.in-Some.ensures.cases in
    (search rules, omega (arith, at.7, c.keys.invariant.1), next_key c.args.text.now c.keys.rest.now c.in-Some.behind.now at.0 at.1 at.2 at.4 at.7 c.keys.invariant.1 c.keys.invariant.2 (sym c.in_default-value_span.ensures.value))

pub returns-in-Some-value_span-clause-value : goal.returns-in-Some-value_span-clause-value
returns-in-Some-value_span-clause-value c =
    let at = c.in-Some.ensures.cases in
    sym (value_found c.args.text.now c.keys.rest.now c.in-Some.behind.now at.0 at.1 c.in-Some-value_span.span at.2 at.4 at.7 c.keys.invariant.1 c.keys.invariant.2 (sym c.in-Some-value_span.ensures.value))

pub returns-clause-value : goal.returns-clause-value
returns-clause-value c =
    sym (c.keys.invariant.2 ∙ ap (option_map (moved_span (length c.args.text.now - length c.keys.rest.now))) (none_at_all c.keys.rest.now c.in_default.ensures.cases))
