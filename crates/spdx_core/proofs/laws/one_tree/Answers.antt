use Rattle.spdx_core.proofs.laws.one_tree.Goals as goal
use Rattle.spdx_core.proofs.SpellingLemmas.{is_read, is_spelled}

pub returns-clause-spelled : goal.returns-clause-spelled
returns-clause-spelled c = λ mode lists text tree terms spells. is_read mode lists text tree terms spells

pub returns-clause-read : goal.returns-clause-read
returns-clause-read c = λ mode lists text found read. is_spelled mode lists text found read
