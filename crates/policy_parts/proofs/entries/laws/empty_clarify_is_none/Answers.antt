use Rattle.policy_parts.proofs.entries.NoClarify.{empty_clarify}
use Rattle.policy_parts.proofs.entries.laws.empty_clarify_is_none.Goals as goal

pub returns : goal.returns
returns c = empty_clarify
