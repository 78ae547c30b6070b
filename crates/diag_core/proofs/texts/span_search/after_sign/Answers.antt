use Rattle.std.proofs.Common.{arith}
use Rattle.std.proofs.lemmas.Str.Pattern.{strip_prefix_char}
use Rattle.diag_core.proofs.texts.SpanLemmas.{sign_behind}
use Rattle.diag_core.proofs.texts.span_search.after_sign.Goals as goal

pub returns-clause-value : goal.returns-clause-value
returns-clause-value c = sign_behind c.args.text.now c.strip_prefix.result (strip_prefix_char 61 c.args.text.now c.strip_prefix.result c.strip_prefix.ensures.cases (omega arith))
