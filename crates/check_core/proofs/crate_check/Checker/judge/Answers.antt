use Rattle.gather_core.specs.Gathered.{krate_of}
use Rattle.policy_core.specs.valid.View.{policy_of}
use Rattle.check_core.specs.Turns.{expression_of}
use Rattle.check_core.proofs.VerdictLemmas.{answered_check}
use Rattle.check_core.proofs.StepLemmas.{asked_bound}
use Rattle.check_core.specs.Summary.{gathered_of_license}
use Rattle.check_core.proofs.crate_check.Checker.judge.Goals as goal

pub returns-clause-verdict : goal.returns-clause-verdict
returns-clause-verdict g c =
    let license = c.args.license in
    answered_check (policy_of c.args.policy.now) (krate_of license) license.exceptions (expression_of license.lic_info) c.is_private.result
    c.is_private.ensures c.if-is_private.false c.ask.result c.ask.ensures.verdict

pub returns-clause-bound : goal.returns-clause-bound
returns-clause-bound g c =
    asked_bound (policy_of c.args.policy.now) (gathered_of_license c.args.license) c.is_private.result c.args.steps.now c.ask.new.steps
    c.is_private.ensures c.if-is_private.false c.ask.ensures.bound
