use Rattle.check_core.proofs.evaluate.MoreLemmas.{more_exceptions}
use Rattle.check_core.proofs.evaluate.laws.more_exceptions_never_reject.Goals as goal

pub returns : goal.returns
returns c = more_exceptions
