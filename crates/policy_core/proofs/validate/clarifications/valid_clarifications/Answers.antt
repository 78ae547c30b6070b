use Rattle.std.proofs.Common.{false, subst}
use Rattle.policy_core.specs.validate.Order.{AddsInOrder, PutsFilesInOrder}
use Rattle.policy_core.specs.validate.Valid.{clarification_judged, kept_by}
use Rattle.policy_core.proofs.validate.AddedLemmas.{all_added}
use Rattle.policy_core.proofs.validate.clarifications.valid_clarifications.Goals as goal

pub returns-clause-kept : goal.returns-clause-kept
returns-clause-kept g c =
    let written = kept_by (clarification_judged (g.C.Catalog.lists c.args.catalog.now) c.args.file false) c.args.clarifications in
    all_added PutsFilesInOrder written c.judge_clarifications.new.valid
    (subst (λ old. AddsInOrder PutsFilesInOrder written old c.judge_clarifications.new.valid) c.new-valid.ensures c.in_ok-judge_clarifications.ensures.kept)
