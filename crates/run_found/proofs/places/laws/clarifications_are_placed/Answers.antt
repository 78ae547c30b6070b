use Rattle.run_found.proofs.places.PlaceLemmas as lemma
use Rattle.run_found.proofs.places.laws.clarifications_are_placed.Goals as goal

pub returns : goal.returns
returns c = lemma.are_placed
