use Rattle.std.proofs.Common.{map}
use Rattle.policy_core.specs.valid.View.{grant_of, req_of}
use Rattle.check_core.proofs.evaluate.FamilyLemmas.{granted_places}
use Rattle.check_core.proofs.evaluate.hits.exception_hit.Goals as goal

pub first_entry-requires : goal.first_entry-requires
first_entry-requires g c =
    granted_places (map grant_of c.args.policy.now.exceptions) c.args.index.now.granted c.args.exception c.args.term.now c.family.result c.granted-places.result.now
    (map req_of c.granted-licensees.result) c.requires c.family.ensures c.granted-places.ensures c.granted-licensees.ensures
