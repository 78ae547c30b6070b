use Rattle.check_bill.proofs.Files.{bills_read_back}
use Rattle.check_bill.proofs.laws.bills_read_back.Goals as goal

pub returns : goal.returns
returns c = λ bill answer is answers. bills_read_back bill answer is answers
