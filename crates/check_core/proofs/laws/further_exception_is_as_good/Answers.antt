use Rattle.check_core.proofs.LawLemmas.{further_as_good}
use Rattle.check_core.proofs.laws.further_exception_is_as_good.Goals as goal

pub returns : goal.returns
returns c = further_as_good
