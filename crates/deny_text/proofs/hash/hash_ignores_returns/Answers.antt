use Rattle.std.proofs.Common.{ap}
use Rattle.deny_text.specs.Hash.{xxh32_of}
use Rattle.deny_text.proofs.NormalLemmas.{normal_ignores_returns}
use Rattle.deny_text.proofs.hash.hash_ignores_returns.Goals as goal

pub returns : goal.returns
returns c = λ text. ap xxh32_of (normal_ignores_returns text)
