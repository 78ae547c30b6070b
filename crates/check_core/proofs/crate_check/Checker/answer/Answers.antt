use Rattle.std.proofs.Common.{◌≡◌, ◌≤◌, ◌+◌, sym, subst, IfOk}
use Rattle.gather_core.specs.declared.findings.license.LicenseInfo.{LicenseInfo}
use Rattle.gather_core.specs.Gathered.{krate_of}
use Rattle.policy_core.specs.valid.View.{policy_of}
use Rattle.check_core.specs.declared.crate_check.ToldVerdict.{ToldVerdict}
use Rattle.check_core.specs.Steps.{entries_of_info}
use Rattle.check_core.specs.Turns.{verdict_finding}
use Rattle.check_core.proofs.crate_check.Checker.answer.Goals as goal

pub returns-in-SpdxExpression-clause-told : goal.returns-in-SpdxExpression-clause-told
returns-in-SpdxExpression-clause-told g c =
    let license = c.args.license.now in
    let krate = krate_of license in
    let policy = policy_of c.args.policy.now in
    subst (λ (info : LicenseInfo). IfOk c.certify.result (λ (answer : ToldVerdict). answer.told ≡ verdict_finding policy krate license.exceptions info license.notes))
    (sym c.in-SpdxExpression.is) c.certify.ensures.told

pub returns-in-SpdxExpression-clause-bound : goal.returns-in-SpdxExpression-clause-bound
returns-in-SpdxExpression-clause-bound g c =
    let counted = c.args.license.now.exceptions in
    let policy = policy_of c.args.policy.now in
    subst (λ (info : LicenseInfo). c.certify.new.steps ≤ c.args.steps.now + entries_of_info policy counted info) (sym c.in-SpdxExpression.is) c.certify.ensures.bound
