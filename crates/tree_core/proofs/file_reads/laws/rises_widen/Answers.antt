use Rattle.tree_core.proofs.file_reads.RisingLemmas.{rises_widen}
use Rattle.tree_core.proofs.file_reads.laws.rises_widen.Goals as goal

pub returns : goal.returns
returns c = rises_widen
