use Rattle.diag_core.proofs.OrderLemmas.{severities_rise}
use Rattle.diag_core.proofs.severity.severities_rise.Goals as goal

pub returns : goal.returns
returns c = severities_rise
