use Rattle.deny_run.proofs.LevelLemmas.{level_law}
use Rattle.deny_run.proofs.laws.level_changes_no_report.Goals as goal

pub returns : goal.returns
returns c = level_law
