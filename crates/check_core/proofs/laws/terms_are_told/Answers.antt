use Rattle.check_core.proofs.HitLemmas as lemma
use Rattle.check_core.proofs.laws.terms_are_told.Goals as goal

pub returns : goal.returns
returns c = lemma.terms_are_told
