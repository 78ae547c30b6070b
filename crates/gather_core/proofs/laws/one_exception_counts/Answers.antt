use Rattle.gather_core.proofs.ExceptionLemmas.{one_exception_counts}
use Rattle.gather_core.proofs.laws.one_exception_counts.Goals as goal

pub returns : goal.returns
returns c = one_exception_counts
