use Rattle.gather_core.proofs.OverlayLemmas.{own_settle}
use Rattle.gather_core.proofs.laws.own_clarifications_settle.Goals as goal

pub returns : goal.returns
returns c = own_settle
