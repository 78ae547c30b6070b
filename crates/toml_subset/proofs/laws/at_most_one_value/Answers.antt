use Rattle.toml_subset.proofs.Law.Whole.{one_value}
use Rattle.toml_subset.proofs.laws.at_most_one_value.Goals as goal

pub returns : goal.returns
returns c = one_value
