use Rattle.policy_core.proofs.valid.SatisfiedLemmas.{decides}
use Rattle.policy_core.proofs.valid.laws.test_is_satisfaction.Goals as goal

pub returns : goal.returns
returns c = decides
