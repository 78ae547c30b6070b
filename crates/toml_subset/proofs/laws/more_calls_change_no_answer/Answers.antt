use Rattle.toml_subset.proofs.Law.Steady.{enough_calls}
use Rattle.toml_subset.proofs.laws.more_calls_change_no_answer.Goals as goal

pub returns : goal.returns
returns c = enough_calls
