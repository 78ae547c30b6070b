use Rattle.spdx_terms.proofs.families.MapLemmas.{further_there, of_error, same_there}
use Rattle.spdx_terms.proofs.families.map.add_place.Goals as goal

pub returns-in-Some-clause-ok : goal.returns-in-Some-clause-ok
returns-in-Some-clause-ok c =
    let new = c.push.new.self in
    further_there c.args.map.now (c.get_mut.follows.lender new) c.args.family c.args.place c.in-Some.places.now new c.in-Some.ensures.value
    (c.get_mut.follows.holds new) c.in_ok-push.ensures.ok

pub returns-in_err-push-clause-err : goal.returns-in_err-push-clause-err
returns-in_err-push-clause-err c =
    let new = c.push.new.self in
    of_error c.from_residual.result _ (same_there c.args.map.now (c.get_mut.follows.lender new) c.args.family c.in-Some.places.now new c.in-Some.ensures.value (c.get_mut.follows.holds new) c.in_err-push.ensures.err)
