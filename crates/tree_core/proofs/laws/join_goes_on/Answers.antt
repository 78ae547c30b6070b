use Rattle.tree_core.proofs.JoinLemmas.{resolve-join}
use Rattle.tree_core.proofs.laws.join_goes_on.Goals as goal

pub returns : goal.returns
returns c = resolve-join c.joins_by_parts.ensures
