use Rattle.std.proofs.Common.{sym, subst, Some, None}
use Rattle.std.specs.List.{AllZip}
use Rattle.policy_core.specs.valid.View.{policy_of}
use Rattle.check_verify.specs.declared.answer.VerifyAnswer.TheVariants.{No, Yes}
use Rattle.check_verify.specs.declared.answer.NoReason.TheVariants.{Crates}
use Rattle.check_verify.specs.Reasons.{answer_by}
use Rattle.check_verify.specs.Verified.{IsFirst, IsFlagged, IsVerified}
use Rattle.check_verify.proofs.Walk.{not_verified, verified_by}
use Rattle.check_verify.proofs.verifying.verify.Goals as goal

pub returns-then-not-same_ids-clause-answer : goal.returns-then-not-same_ids-clause-answer
returns-then-not-same_ids-clause-answer g c =
    let policy = policy_of c.args.policy.now in
    let licenses = c.items-licenses.result.now in
    let items = c.items-items.result.now in
    let own = not_verified policy licenses c.in_ok-flags.flags.items items c.in_ok-flags.ensures c.same_ids.result c.same_ids.ensures c.if-not-same_ids.true in
    subst (λ some. IsVerified policy some c.args.verdict_file.now (No Crates)) c.items-licenses.ensures (subst (λ some. IsVerified policy licenses some (No Crates)) c.items-items.ensures.items own)

pub returns-in-Some-clause-answer : goal.returns-in-Some-clause-answer
returns-in-Some-clause-answer g c =
    let policy = policy_of c.args.policy.now in
    let licenses = c.items-licenses.result.now in
    let flags = c.as_slice-flags.result.now in
    let items = c.items-items.result.now in
    let reason = Some c.in-Some.reason in
    let each = subst (AllZip (IsFlagged policy) licenses) (sym c.as_slice-flags.ensures.value) c.in_ok-flags.ensures in
    let own = verified_by policy licenses flags items each c.same_ids.result c.same_ids.ensures c.if-not-same_ids.false reason (subst (IsFirst policy licenses flags items) c.in-Some.is c.in_ok-reason.ensures.reason) in
    subst (λ some. IsVerified policy some c.args.verdict_file.now (answer_by reason)) c.items-licenses.ensures (subst (λ some. IsVerified policy licenses some (answer_by reason)) c.items-items.ensures.items own)

pub returns-clause-answer : goal.returns-clause-answer
returns-clause-answer g c =
    let policy = policy_of c.args.policy.now in
    let licenses = c.items-licenses.result.now in
    let flags = c.as_slice-flags.result.now in
    let items = c.items-items.result.now in
    let each = subst (AllZip (IsFlagged policy) licenses) (sym c.as_slice-flags.ensures.value) c.in_ok-flags.ensures in
    let own = verified_by policy licenses flags items each c.same_ids.result c.same_ids.ensures c.if-not-same_ids.false None (subst (IsFirst policy licenses flags items) c.in-None.is c.in_ok-reason.ensures.reason) in
    subst (λ some. IsVerified policy some c.args.verdict_file.now Yes) c.items-licenses.ensures (subst (λ some. IsVerified policy licenses some Yes) c.items-items.ensures.items own)
