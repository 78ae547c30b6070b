use Rattle.check_core.proofs.LawLemmas.{first_counts}
use Rattle.check_core.proofs.laws.first_exception_counts.Goals as goal

pub returns : goal.returns
returns c = first_counts
