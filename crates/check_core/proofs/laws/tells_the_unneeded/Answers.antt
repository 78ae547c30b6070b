use Rattle.check_core.proofs.HitLemmas as lemma
use Rattle.check_core.proofs.laws.tells_the_unneeded.Goals as goal

pub returns : goal.returns
returns c = lemma.tells_the_unneeded
