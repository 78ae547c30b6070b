use Rattle.deny_text.proofs.NormalLemmas.{normal_is_normal}
use Rattle.deny_text.proofs.normal.normal_is_normal.Goals as goal

pub returns : goal.returns
returns c = normal_is_normal
