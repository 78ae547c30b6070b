use Rattle.std.proofs.Common.{◌≡◌, sym, subst, IfOk, OnErr, map}
use Rattle.std.specs.Prelude.{All}
use Rattle.std.proofs.lemmas.Result.{IfOk-weaker}
use Rattle.diag_core.specs.Overrides.{pack_overridden}
use Rattle.policy_core.specs.declared.valid.policy.ValidConfig.{ValidConfig}
use Rattle.policy_core.specs.valid.View.{policy_of}
use Rattle.check_core.specs.Check.{AreVerdicts, HasFront, findings_of}
use Rattle.check_core.specs.Labels.{VerdictPoints}
use Rattle.check_core.specs.Reports.{verdicts_of}
use Rattle.check_core.specs.Summary.{gathered_of_licenses}
use Rattle.check_core.specs.unused.Laws.{EntriesLie}
use Rattle.check_core.proofs.SinkLemmas.{labels_gained, of_success, packs_gained}
use Rattle.check_core.proofs.check.judge_by_ledger.Goals as goal

-- the counted policy is the one that was given

pub returns-clause-verdicts : goal.returns-clause-verdicts
returns-clause-verdicts g c =
    let asked = gathered_of_licenses c.args.summary.nfos in
    subst (λ (policy : ValidConfig). IfOk c.check.result (λ reports. AreVerdicts (policy_of policy) asked (verdicts_of reports))) c.of.ensures c.check.ensures.verdicts

pub returns-clause-packs : goal.returns-clause-packs
returns-clause-packs g c =
    let asked = gathered_of_licenses c.args.summary.nfos in
    let overridden = map (pack_overridden c.args.sink.now.overrides) in
    subst (λ (policy : ValidConfig). IfOk c.check.result (λ reports. c.check.new.sink.packs ≡ overridden (findings_of policy asked (verdicts_of reports)))) c.of.ensures
    (IfOk-weaker c.check.result _ _ (λ verdicts is. packs_gained c.args.sink.now c.check.new.sink _ c.requires.empty is) c.check.ensures.packs)

pub returns-clause-front : goal.returns-clause-front
returns-clause-front g c =
    subst (λ (policy : ValidConfig). OnErr c.check.result (HasFront (policy_of policy) c.args.summary.nfos c.args.sink.now c.check.new.sink)) c.of.ensures c.check.ensures.front

pub returns-clause-terms : goal.returns-clause-terms
returns-clause-terms g c =
    let files = c.args.ctx.now.files.now in
    subst (λ (policy : ValidConfig). All (VerdictPoints files (policy_of policy)) (gathered_of_licenses c.args.summary.nfos)) c.of.ensures c.check.ensures.terms

pub returns-clause-labels : goal.returns-clause-labels
returns-clause-labels g c =
    let files = c.args.ctx.now.files.now in
    let lie = subst (EntriesLie files) (sym c.of.ensures) c.requires.entries in
    of_success c.check.result _ (labels_gained files c.args.sink.now c.check.new.sink c.requires.empty (c.check.ensures.labels lie))
