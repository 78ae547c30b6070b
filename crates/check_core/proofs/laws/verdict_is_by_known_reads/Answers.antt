use Rattle.check_core.proofs.OwnLemmas as lemma
use Rattle.check_core.proofs.laws.verdict_is_by_known_reads.Goals as goal

pub returns : goal.returns
returns c = lemma.by_known_reads
