use Rattle.spdx_core.proofs.laws.joined_names_are_read.Goals as goal
use Rattle.spdx_core.proofs.JoinedNames.{joined_read}

pub returns : goal.returns
returns c = joined_read
