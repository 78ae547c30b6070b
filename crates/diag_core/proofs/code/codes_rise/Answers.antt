use Rattle.diag_core.proofs.OrderLemmas.{codes_rise}
use Rattle.diag_core.proofs.code.codes_rise.Goals as goal

pub returns : goal.returns
returns c = codes_rise
