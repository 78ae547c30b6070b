use Rattle.check_verify.proofs.LawLemmas.{meeting_told}
use Rattle.check_verify.proofs.laws.meeting_is_told.Goals as goal

pub returns : goal.returns
returns c = meeting_told
