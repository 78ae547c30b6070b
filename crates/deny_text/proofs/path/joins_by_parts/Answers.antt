use Rattle.deny_text.proofs.PathLemmas.{joins_by_parts}
use Rattle.deny_text.proofs.path.joins_by_parts.Goals as goal

pub returns : goal.returns
returns c = joins_by_parts
