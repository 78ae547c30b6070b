use Rattle.spdx_core.proofs.certificates.LawLemmas.{more_hits}
use Rattle.spdx_core.proofs.certificates.laws.more_hits_never_reject.Goals as goal

pub returns : goal.returns
returns c = more_hits
