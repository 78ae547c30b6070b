use Rattle.check_why.proofs.LawLemmas.{allowed-is-enough}
use Rattle.check_why.proofs.laws.allowed_is_enough.Goals as goal

pub returns : goal.returns
returns c = allowed-is-enough
