use Rattle.deny_text.proofs.PathLemmas.{parent_drops_last}
use Rattle.deny_text.proofs.path.parent_drops_last.Goals as goal

pub returns : goal.returns
returns c = parent_drops_last
