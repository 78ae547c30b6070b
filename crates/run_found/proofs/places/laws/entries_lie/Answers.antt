use Rattle.run_found.proofs.places.PlaceLemmas as lemma
use Rattle.run_found.proofs.places.laws.entries_lie.Goals as goal

pub returns : goal.returns
returns c = lemma.entries_lie
