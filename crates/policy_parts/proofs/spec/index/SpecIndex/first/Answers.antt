use Rattle.std.proofs.Common.{map, ap}
use Rattle.graph_core.specs.Krate.{record_of}
use Rattle.policy_parts.specs.spec.Index.{first_of}
use Rattle.policy_parts.proofs.spec.IndexLemmas.{all_walked}
use Rattle.policy_parts.proofs.spec.index.SpecIndex.first.Goals as goal

pub places-init : goal.places-init
places-init g c =
    ap first_of (all_walked (record_of c.args.krate.now) (map g.S.HasSpec.spec_of c.args.items.now) c.args.self.now c.candidates-left.result c.requires c.candidates-left.ensures)
