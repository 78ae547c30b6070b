use Rattle.tree_core.proofs.file_reads.ToldLemmas.{reads_told}
use Rattle.tree_core.proofs.file_reads.laws.reads_tell_content.Goals as goal

pub returns : goal.returns
returns c = reads_told
