use Rattle.std.proofs.Common.{ap}
use Rattle.std.specs.Option.{option_copied}
use Rattle.run_found.proofs.own_names.HeardLemmas.{catalog_there}
use Rattle.run_found.proofs.own_names.found.lists_at.Goals as goal

pub returns-in-Ok-clause-read : goal.returns-in-Ok-clause-read
returns-in-Ok-clause-read g c =
    let given = g.C.Catalog.lists c.args.catalog.now in
    catalog_there given (option_copied c.args.path) c.in-Some.path.now c.as_path.result.now (ap option_copied c.in-Some.is) c.as_path.ensures (c.in-Ok.ensures.read given)

pub returns-in-Err-clause-read : goal.returns-in-Err-clause-read
returns-in-Err-clause-read g c =
    let given = g.C.Catalog.lists c.args.catalog.now in
    catalog_there given (option_copied c.args.path) c.in-Some.path.now c.as_path.result.now (ap option_copied c.in-Some.is) c.as_path.ensures (c.in-Err.ensures.read given)
