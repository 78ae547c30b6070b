use Rattle.spdx_core.proofs.laws.terms_rise.Goals as goal
use Rattle.spdx_core.proofs.SpellingLemmas.{terms_rise}

pub returns : goal.returns
returns c = λ mode lists text tree terms laws utf8 spells. terms_rise mode lists text tree terms laws utf8 spells
