use Rattle.check_core.proofs.evaluate.MoreLemmas.{more_allowed}
use Rattle.check_core.proofs.evaluate.laws.more_allowed_never_reject.Goals as goal

pub returns : goal.returns
returns c = more_allowed
