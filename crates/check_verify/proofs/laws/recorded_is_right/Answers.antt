use Rattle.check_verify.proofs.RightLemmas.{recorded_is_right}
use Rattle.check_verify.proofs.laws.recorded_is_right.Goals as goal

pub returns : goal.returns
returns c = recorded_is_right
