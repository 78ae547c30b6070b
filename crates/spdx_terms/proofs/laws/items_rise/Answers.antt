use Rattle.spdx_terms.proofs.laws.items_rise.Goals as goal
use Rattle.spdx_terms.proofs.ItemSpans.{items_rise}

pub returns : goal.returns
returns c = λ mode lists text laws utf8. items_rise mode lists laws text utf8
