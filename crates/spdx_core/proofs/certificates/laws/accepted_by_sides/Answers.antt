use Rattle.spdx_core.proofs.certificates.LawLemmas.{by_sides}
use Rattle.spdx_core.proofs.certificates.laws.accepted_by_sides.Goals as goal

pub returns : goal.returns
returns c = by_sides
