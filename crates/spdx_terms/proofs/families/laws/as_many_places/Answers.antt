use Rattle.spdx_terms.proofs.families.PlaceLemmas.{as_many}
use Rattle.spdx_terms.proofs.families.laws.as_many_places.Goals as goal

pub returns : goal.returns
returns c = as_many
