use Rattle.std.proofs.Common.{subst, sym}
use Rattle.check_notice.specs.Numbers.{FindsTexts}
use Rattle.check_notice.proofs.PlaceLemmas.{no_texts}
use Rattle.check_notice.proofs.numbers.TextNumbers.new.Goals as goal

pub invariant_of-result : goal.invariant_of-result
invariant_of-result c = subst (FindsTexts c.new-2.result) (sym c.new.ensures) (no_texts c.new-2.result c.new-2.ensures)
