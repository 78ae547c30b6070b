use Rattle.std.proofs.Common.{ap}
use Rattle.std.specs.Option.{option_copied}
use Rattle.run_found.specs.own_names.Given.{texts_given}
use Rattle.run_found.proofs.own_names.HeardLemmas.{texts_had, texts_refused}
use Rattle.run_found.proofs.own_names.found.texts_at.Goals as goal

pub returns-in-Ok-clause-read : goal.returns-in-Ok-clause-read
returns-in-Ok-clause-read g c =
    texts_had (texts_given (g.I.Identifier.match_of c.args.identifier.now) (g.I.TextLookup.text_of c.args.identifier.now)) (option_copied c.args.path) c.in-Some.path.now c.as_path.result.now (ap option_copied c.in-Some.is) c.as_path.ensures c.in-Ok.store c.in-Ok.ensures.read

pub returns-in-Err-clause-read : goal.returns-in-Err-clause-read
returns-in-Err-clause-read g c =
    texts_refused (texts_given (g.I.Identifier.match_of c.args.identifier.now) (g.I.TextLookup.text_of c.args.identifier.now)) (option_copied c.args.path) c.in-Some.path.now c.as_path.result.now (ap option_copied c.in-Some.is) c.as_path.ensures c.in-Err.refused c.from.result c.in-Err.ensures.read c.from.ensures
