use Rattle.check_verify.proofs.RightLemmas.{no_reason_is_right}
use Rattle.check_verify.proofs.laws.no_reason_is_right.Goals as goal

pub returns : goal.returns
returns c = no_reason_is_right
