use Rattle.spdx_terms.proofs.families.PlaceLemmas.{rise}
use Rattle.spdx_terms.proofs.families.laws.places_rise.Goals as goal

pub returns : goal.returns
returns c = rise
