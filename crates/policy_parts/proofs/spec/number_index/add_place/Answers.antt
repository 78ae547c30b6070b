use Rattle.policy_parts.proofs.spec.IndexLemmas.{further_there}
use Rattle.policy_parts.proofs.spec.number_index.add_place.Goals as goal

pub returns-in-Some : goal.returns-in-Some
returns-in-Some c =
    let new = c.push.new.self in
    further_there c.args.places.now (c.get_mut.follows.lender new) c.args.number c.args.place c.in-Some.known.now new c.in-Some.ensures.value
    (c.get_mut.follows.holds new) c.in_ok-push.ensures.ok
