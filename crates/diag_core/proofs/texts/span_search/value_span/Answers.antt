use Rattle.diag_core.proofs.texts.SpanLemmas.{no_sign, no_quote, no_end, ended}
use Rattle.diag_core.proofs.texts.span_search.value_span.Goals as goal

pub returns-in_default-clause-value : goal.returns-in_default-clause-value
returns-in_default-clause-value c = no_sign c.args.text.now (rw c.trim_start.ensures.trim at c.in_default.ensures.value)

pub returns-in_default-after_quote-clause-value : goal.returns-in_default-after_quote-clause-value
returns-in_default-after_quote-clause-value c =
    no_quote c.args.text.now c.in-Some.after.now (rw c.trim_start.ensures.trim at c.in-Some.ensures.value) (rw c.trim_start-2.ensures.trim at c.in_default-after_quote.ensures.value)

pub returns-in_default-first_quote-clause-value : goal.returns-in_default-first_quote-clause-value
returns-in_default-first_quote-clause-value c =
    no_end c.args.text.now c.in-Some.after.now c.in-Some-after_quote.value.now (rw c.trim_start.ensures.trim at c.in-Some.ensures.value) (rw c.trim_start-2.ensures.trim at c.in-Some-after_quote.ensures.value) (rw c.as_bytes.ensures.value at c.in_default-first_quote.ensures.value)

pub returns-clause-value : goal.returns-clause-value
returns-clause-value c =
    ended c.args.text.now c.in-Some.after.now c.in-Some-after_quote.value.now c.in-Some-first_quote.len (rw c.trim_start.ensures.trim at c.in-Some.ensures.value) (rw c.trim_start-2.ensures.trim at c.in-Some-after_quote.ensures.value) (rw c.as_bytes.ensures.value at c.in-Some-first_quote.ensures.value)
