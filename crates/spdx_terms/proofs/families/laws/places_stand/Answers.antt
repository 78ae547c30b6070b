use Rattle.spdx_terms.proofs.families.PlaceLemmas.{stands}
use Rattle.spdx_terms.proofs.families.laws.places_stand.Goals as goal

pub returns : goal.returns
returns c = stands
