use Rattle.spdx_core.proofs.laws.tree_or_fault.Goals as goal
use Rattle.spdx_core.proofs.NoFault.{no_fault}
use Rattle.spdx_core.proofs.HasTree.{has_tree}

pub returns : goal.returns
returns c = λ mode lists text. (λ none. has_tree mode lists text none, λ found. no_fault mode lists text found.0 found.1 found.2)
