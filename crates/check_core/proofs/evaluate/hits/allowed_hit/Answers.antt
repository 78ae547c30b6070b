use Rattle.std.proofs.Common.{ap, map}
use Rattle.policy_core.specs.valid.View.{req_of}
use Rattle.check_core.proofs.evaluate.FamilyLemmas.{allowed_places}
use Rattle.check_core.proofs.evaluate.hits.allowed_hit.Goals as goal

pub first_entry-requires : goal.first_entry-requires
first_entry-requires g c =
    allowed_places (map req_of c.args.policy.now.allowed) c.args.index.now.allowed c.args.term.now c.family.result c.allowed-places.result.now
    (map req_of c.allowed-licensees.result) c.requires c.family.ensures c.allowed-places.ensures (ap (map req_of) c.allowed-licensees.ensures)
