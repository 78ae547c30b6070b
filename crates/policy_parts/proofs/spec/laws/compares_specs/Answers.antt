use Rattle.std.proofs.Common.{sym, ap, ◌∙◌}
use Rattle.std.specs.Ordering.{is_eq}
use Rattle.policy_parts.specs.spec.OrderLaws.{spec_ties}
use Rattle.policy_parts.proofs.spec.SameLemmas.{tied}
use Rattle.policy_parts.proofs.spec.laws.compares_specs.Goals as goal

pub returns-clause-agree : goal.returns-clause-agree
returns-clause-agree c =
    let ties = c.eq.ensures ∙ spec_ties c.args.x.now c.args.y.now ∙ ap is_eq (sym c.cmp.ensures) in
    (λ same. (tied c.cmp.result).0 (sym ties ∙ same), λ equal. ties ∙ (tied c.cmp.result).1 equal)
