use Rattle.check_core.proofs.unused.LawLemmas as lemma
use Rattle.check_core.proofs.unused.laws.tells_the_unused.Goals as goal

pub returns : goal.returns
returns c = lemma.tells_the_unused
