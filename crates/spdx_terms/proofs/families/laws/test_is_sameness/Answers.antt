use Rattle.spdx_terms.proofs.families.PlaceLemmas.{decides}
use Rattle.spdx_terms.proofs.families.laws.test_is_sameness.Goals as goal

pub returns : goal.returns
returns c = decides
