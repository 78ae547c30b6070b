-- A spec names the crate as what it is read as does.
use Rattle.std.proofs.Common.{◌∙◌}
use Rattle.graph_core.specs.Krate.{record_of}
use Rattle.run_why.proofs.NamedLemmas.{any_is}
use Rattle.run_why.proofs.named.name.Goals as goal

pub returns : goal.returns
returns c = c.any_is_for.ensures ∙ any_is c.args.specs.now (record_of c.args.krate.now)
