use Rattle.spdx_core.proofs.laws.licensee_or_fault.Goals as goal
use Rattle.spdx_core.proofs.OnePart.{licensee_or_fault}

pub returns : goal.returns
returns c = λ mode lists text. licensee_or_fault mode lists text
