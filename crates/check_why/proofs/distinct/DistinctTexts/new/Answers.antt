use Rattle.std.proofs.Common.{subst, sym}
use Rattle.check_why.specs.Distinct.{KnowsTexts}
use Rattle.check_why.proofs.DistinctLemmas.{no_texts}
use Rattle.check_why.proofs.distinct.DistinctTexts.new.Goals as goal

pub invariant_of-result : goal.invariant_of-result
invariant_of-result c = subst (KnowsTexts c.new-2.result) (sym c.new.ensures) (no_texts c.new-2.result c.new-2.ensures)
