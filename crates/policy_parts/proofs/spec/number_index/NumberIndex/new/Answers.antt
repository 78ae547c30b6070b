use Rattle.std.proofs.Common.{sym, subst}
use Rattle.policy_parts.specs.spec.Index.{HasNumberPlaces}
use Rattle.policy_parts.proofs.spec.IndexLemmas.{has_none}
use Rattle.policy_parts.proofs.spec.number_index.NumberIndex.new.Goals as goal

pub invariant_of-result : goal.invariant_of-result
invariant_of-result c = subst (HasNumberPlaces c.new-2.result) (sym c.new.ensures.items) (has_none c.new-2.result c.new-2.ensures.empty)
