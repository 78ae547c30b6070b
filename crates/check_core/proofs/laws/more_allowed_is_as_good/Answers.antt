use Rattle.check_core.proofs.LawLemmas.{more_allowed_as_good}
use Rattle.check_core.proofs.laws.more_allowed_is_as_good.Goals as goal

pub returns : goal.returns
returns c = more_allowed_as_good
