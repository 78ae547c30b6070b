use Rattle.tree_core.proofs.file_reads.ReadLemmas.{reads_rise}
use Rattle.tree_core.proofs.file_reads.laws.reads_rise.Goals as goal

pub returns : goal.returns
returns c = reads_rise
