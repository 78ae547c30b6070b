use Rattle.toml_subset.proofs.Law.InText.{fault_lies}
use Rattle.toml_subset.proofs.laws.faults_lie_in_the_text.Goals as goal

pub returns : goal.returns
returns c = fault_lies
