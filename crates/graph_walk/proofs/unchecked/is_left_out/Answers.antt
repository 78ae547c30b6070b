-- A spec leaves the crate out as what it is read as does.
use Rattle.std.proofs.Common.{◌∙◌}
use Rattle.graph_core.specs.Krate.{record_of}
use Rattle.graph_walk.proofs.UncheckedLemmas.{any-map}
use Rattle.graph_walk.proofs.unchecked.is_left_out.Goals as goal

pub returns : goal.returns
returns c = c.any_leaves_out.ensures ∙ any-map c.args.specs.now (record_of c.args.krate.now)
