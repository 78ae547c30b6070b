use Rattle.gather_core.proofs.ExceptionLemmas.{further_exceptions_count_last}
use Rattle.gather_core.proofs.laws.further_exceptions_count_last.Goals as goal

pub returns : goal.returns
returns c = further_exceptions_count_last
