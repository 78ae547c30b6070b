use Rattle.policy_core.proofs.validate.AddedLemmas.{adds_more}
use Rattle.policy_core.proofs.validate.entries.add_exceptions.Goals as goal

pub exceptions-preserved : goal.exceptions-preserved
exceptions-preserved c =
    adds_more c.args.file c.exceptions.yielded c.in-Some.exception c.in_ok-one.one c.args.valid.now c.exceptions.valid c.push.new.self
    c.in_ok-one.ensures c.in_ok-push.ensures.ok c.exceptions.invariant
