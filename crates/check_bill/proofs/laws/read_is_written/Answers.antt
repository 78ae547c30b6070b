use Rattle.check_bill.proofs.Files.{read_is_written}
use Rattle.check_bill.proofs.laws.read_is_written.Goals as goal

pub returns : goal.returns
returns c = λ bytes bill spells. read_is_written bytes bill spells
