use Rattle.std.proofs.Common.{ap₂, ◌∙◌}
use Rattle.std.specs.Cmp.Lexicographic.{pointwise, texts_ties}
use Rattle.std.specs.Prelude.{nat_eq}
use Rattle.deny_text.proofs.text.TextPartialEq.eq.Goals as goal

pub returns : goal.returns
returns c = c.eq.ensures ∙ ap₂ (pointwise nat_eq) c.as_str.ensures c.as_str-2.ensures ∙ texts_ties c.args.self.now c.args.other.now
