use Rattle.spdx_core.proofs.laws.places_in_order.Goals as goal
use Rattle.spdx_core.proofs.SpellingLemmas.{in_order}

pub returns : goal.returns
returns c = λ mode lists text tree terms spells. in_order mode lists text tree terms spells
