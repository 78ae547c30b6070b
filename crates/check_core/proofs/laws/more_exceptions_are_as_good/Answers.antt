use Rattle.check_core.proofs.LawLemmas.{more_exceptions_as_good}
use Rattle.check_core.proofs.laws.more_exceptions_are_as_good.Goals as goal

pub returns : goal.returns
returns c = more_exceptions_as_good
