use Rattle.run_why.proofs.LawLemmas.{verdicts_of_check}
use Rattle.run_why.proofs.laws.tells_verdicts_of_check.Goals as goal

pub returns : goal.returns
returns c = λ lists match_of log context words levels hearing why check first second. verdicts_of_check lists match_of log context words levels hearing why check first second
