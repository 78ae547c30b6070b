use Rattle.run_request.proofs.LawLemmas.{second_deny}
use Rattle.run_request.proofs.laws.second_deny_changes_nothing.Goals as goal

pub returns : goal.returns
returns c = second_deny
