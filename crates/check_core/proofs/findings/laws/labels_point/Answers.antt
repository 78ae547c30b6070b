use Rattle.check_core.proofs.findings.PointLemmas as lemma
use Rattle.check_core.proofs.findings.laws.labels_point.Goals as goal

pub returns : goal.returns
returns c = lemma.labels_point
