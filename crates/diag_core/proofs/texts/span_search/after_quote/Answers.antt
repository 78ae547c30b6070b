use Rattle.std.proofs.Common.{None, arith}
use Rattle.std.proofs.lemmas.Str.Pattern.{strip_prefix_char}
use Rattle.diag_core.proofs.texts.SpanLemmas.{second_quote_behind}
use Rattle.diag_core.proofs.texts.span_search.after_quote.Goals as goal

pub returns-in-None-clause-value : goal.returns-in-None-clause-value
returns-in-None-clause-value c =
    second_quote_behind c.args.text.now c.strip_prefix-in-None.result
    (strip_prefix_char 34 c.args.text.now None c.in-None.ensures.cases (omega arith))
    (strip_prefix_char 39 c.args.text.now c.strip_prefix-in-None.result c.strip_prefix-in-None.ensures.cases (omega arith))
