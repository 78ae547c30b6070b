use Rattle.policy_core.proofs.validate.OrderLemmas.{licensees_one, files_one, policies_one}
use Rattle.policy_core.proofs.validate.laws.order_is_one.Goals as goal

pub returns-clause-licensees : goal.returns-clause-licensees
returns-clause-licensees c = licensees_one

pub returns-clause-files : goal.returns-clause-files
returns-clause-files c = files_one

pub returns-clause-policies : goal.returns-clause-policies
returns-clause-policies c = policies_one
