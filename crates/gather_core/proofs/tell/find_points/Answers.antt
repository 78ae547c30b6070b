use Rattle.gather_core.proofs.findings.GrowLemmas.{grows_itself}
use Rattle.gather_core.proofs.tell.find_points.Goals as goal

pub returns-in-None-clause-grows : goal.returns-in-None-clause-grows
returns-in-None-clause-grows c = grows_itself c.args.files.now
