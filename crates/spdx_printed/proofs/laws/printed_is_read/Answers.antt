use Rattle.spdx_printed.proofs.ReadBack.{printed_is_read}
use Rattle.spdx_printed.proofs.laws.printed_is_read.Goals as goal

pub returns : goal.returns
returns c = λ mode known lists text tree terms spells laws named. printed_is_read mode known lists text tree terms spells laws named
