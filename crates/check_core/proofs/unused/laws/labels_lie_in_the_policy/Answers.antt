use Rattle.check_core.proofs.unused.LawLemmas as lemma
use Rattle.check_core.proofs.unused.laws.labels_lie_in_the_policy.Goals as goal

pub returns : goal.returns
returns c = lemma.labels_lie
