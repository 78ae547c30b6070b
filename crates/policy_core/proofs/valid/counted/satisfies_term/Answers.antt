use Rattle.policy_core.specs.valid.View.{req_of}
use Rattle.policy_core.proofs.valid.SatisfiedLemmas.{agrees}
use Rattle.policy_core.proofs.valid.counted.satisfies_term.Goals as goal

pub returns-clause-answer : goal.returns-clause-answer
returns-clause-answer g c = agrees c.satisfies.result (req_of c.args.licensee.now) c.args.term.now c.satisfies.ensures.answer
