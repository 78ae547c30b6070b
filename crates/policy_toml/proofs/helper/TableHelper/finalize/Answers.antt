use Rattle.std.proofs.Common.{◌≡◌, Some, sym, ap, ◌∙◌}
use Rattle.policy_toml.proofs.helper.TableHelper.finalize.Goals as goal

pub returns-in-Some-clause-back : goal.returns-in-Some-clause-back
returns-in-Some-clause-back c = rw c.in-Some.is (ap Some c.give_back.ensures)
