-- By induction on the value.
use Rattle.graph_metadata.proofs.FloatLemmas.{found-data}
use Rattle.graph_metadata.proofs.floats.floats_are_found.Goals as goal

pub returns : goal.returns
returns c = found-data
