use Rattle.spdx_core.proofs.laws.slash_is_strict.Goals as goal
use Rattle.spdx_core.proofs.SpellingLemmas.{strict}

pub returns : goal.returns
returns c = λ mode lists text tree terms none spells. strict mode lists text tree terms none spells
