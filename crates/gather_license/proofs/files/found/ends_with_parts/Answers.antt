use Rattle.gather_license.proofs.files.FoundLemmas.{ends_with-tells}
use Rattle.gather_license.proofs.files.found.ends_with_parts.Goals as goal

pub returns : goal.returns
returns c = ends_with-tells c.ends_with.result c.args.path.now c.args.end.now c.ends_with.ensures
