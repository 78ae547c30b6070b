use Rattle.deny_text.proofs.NormalLemmas.{normal_ignores_returns}
use Rattle.deny_text.proofs.normal.normal_ignores_returns.Goals as goal

pub returns : goal.returns
returns c = normal_ignores_returns
