use Rattle.policy_core.specs.valid.View.{policy_of}
use Rattle.check_verify.proofs.Walk.{allowed_apart}
use Rattle.check_verify.proofs.entries.are_allowed.Goals as goal

pub returns-then-places-hits-clause-answer : goal.returns-then-places-hits-clause-answer
returns-then-places-hits-clause-answer g c =
    allowed_apart (policy_of c.args.policy.now) c.args.counted.now c.args.terms.now c.args.places.now c.args.hits.now c.if-places-hits.true
