use Rattle.spdx_terms.proofs.laws.items_cover.Goals as goal
use Rattle.spdx_terms.proofs.ItemCover.{items_cover}

pub returns : goal.returns
returns c = λ mode lists text laws utf8. items_cover mode lists laws text utf8
