use Rattle.gather_core.proofs.findings.LicenseLemmas.{stands_grown}
use Rattle.check_core.proofs.findings.laws.stands_on.Goals as goal

pub returns : goal.returns
returns c = λ files more nfo words stands. stands_grown files more nfo.file_id nfo.offset nfo.whole words stands
