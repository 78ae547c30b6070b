use Rattle.std.proofs.Common.{subst, IfOk}
use Rattle.policy_core.specs.declared.valid.policy.ValidConfig.{ValidConfig}
use Rattle.policy_core.specs.valid.View.{policy_of}
use Rattle.check_verify.specs.Verified.{IsVerified}
use Rattle.run_record.proofs.verifying.verify_by_ledger.Goals as goal

-- the counted policy is the one that was given
pub returns : goal.returns
returns g c =
    subst (λ (policy : ValidConfig). IfOk c.verify.result (IsVerified (policy_of policy) c.args.summary.now.nfos c.args.verdicts.now)) c.of-counted.ensures c.verify.ensures.answer
