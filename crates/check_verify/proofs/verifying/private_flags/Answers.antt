use Rattle.policy_core.specs.valid.View.{policy_of}
use Rattle.check_verify.specs.Verified.{IsFlagged}
use Rattle.check_verify.proofs.Walk.{zip_next}
use Rattle.check_verify.proofs.verifying.private_flags.Goals as goal

pub crates-preserved : goal.crates-preserved
crates-preserved g c =
    zip_next (IsFlagged (policy_of c.args.policy.now)) c.args.licenses.now c.crates.flags.items c.push.new.self.items c.crates.license-index c.license-item.result c.is_private.result
    c.crates-test.true c.license-item.is c.crates.invariant c.is_private.ensures c.in_ok-push.ensures.items
