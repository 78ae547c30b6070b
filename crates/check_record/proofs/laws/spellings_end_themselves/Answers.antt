use Rattle.check_record.proofs.Files.{spellings_end}
use Rattle.check_record.proofs.laws.spellings_end_themselves.Goals as goal

pub returns : goal.returns
returns c = spellings_end
