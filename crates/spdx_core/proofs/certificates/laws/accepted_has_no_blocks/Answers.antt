use Rattle.spdx_core.proofs.certificates.LawLemmas.{no_blocks}
use Rattle.spdx_core.proofs.certificates.laws.accepted_has_no_blocks.Goals as goal

pub returns : goal.returns
returns c = no_blocks
