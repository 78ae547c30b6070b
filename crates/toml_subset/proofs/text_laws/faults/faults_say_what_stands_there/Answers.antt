use Rattle.toml_subset.proofs.text_laws.FirstFault.{first_fault}
use Rattle.toml_subset.proofs.text_laws.faults.faults_say_what_stands_there.Goals as goal

pub returns : goal.returns
returns c = first_fault
