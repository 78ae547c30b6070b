use Rattle.check_notice.proofs.LawLemmas.{notices_lead}
use Rattle.check_notice.proofs.laws.notices_lead.Goals as goal

pub returns : goal.returns
returns c = notices_lead
