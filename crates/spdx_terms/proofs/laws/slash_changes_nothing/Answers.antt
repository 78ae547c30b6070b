use Rattle.spdx_terms.proofs.laws.slash_changes_nothing.Goals as goal
use Rattle.spdx_terms.proofs.ItemSpans.{slash_same}

pub returns : goal.returns
returns c = λ mode lists text none. slash_same mode lists text none
