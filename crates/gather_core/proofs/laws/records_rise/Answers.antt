use Rattle.gather_core.proofs.RisingLemmas.{rises_by_reads}
use Rattle.gather_core.proofs.laws.records_rise.Goals as goal

pub returns : goal.returns
returns c = λ told tells before after old new scanner all files licenses last by. rises_by_reads scanner all files licenses last by
