use Rattle.tree_core.proofs.file_reads.RisingLemmas.{rises_compose}
use Rattle.tree_core.proofs.file_reads.laws.rises_compose.Goals as goal

pub returns : goal.returns
returns c = rises_compose
