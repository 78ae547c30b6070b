use Rattle.deny_run.proofs.LevelLemmas.{status_law}
use Rattle.deny_run.proofs.laws.level_keeps_status.Goals as goal

pub returns : goal.returns
returns c = status_law
