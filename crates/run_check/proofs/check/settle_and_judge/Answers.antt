use Rattle.std.proofs.Common.{◌≡◌, subst, sym}
use Rattle.std.proofs.lemmas.Result.{IfOk-weaker, err_from_is_err_and}
use Rattle.std.specs.Prelude.{All}
use Rattle.graph_core.specs.Metadata.{Graph}
use Rattle.graph_core.specs.selection.Choice.{Choice}
use Rattle.graph_core.specs.selection.Listed.{IsChosen}
use Rattle.policy_core.specs.valid.View.{policy_of}
use Rattle.policy_core.specs.Places.{PolicyStands}
use Rattle.check_core.specs.Labels.{VerdictPoints}
use Rattle.check_core.specs.Summary.{gathered_of_licenses}
use Rattle.gather_license.proofs.files.CallLemmas.{on_err}
use Rattle.run_request.specs.declared.level.LintLevels.{LintLevels}
use Rattle.run_overrides.specs.Levels.{PutAtLevels}
use Rattle.run_found.specs.Hearing.{tree_seen}
use Rattle.run_found.specs.Licenses.{scanner_of_policy}
use Rattle.run_found.proofs.StageLemmas.{gather_cut}
use Rattle.run_found.proofs.places.GrownLemmas.{policy_grown}
use Rattle.run_check.specs.declared.check.CheckedCrates.{CheckedCrates}
use Rattle.run_check.specs.Steps.{IsCheckOf, IsCheckedOn}
use Rattle.run_check.proofs.CheckLemmas.{both_of}
use Rattle.run_check.proofs.check.settle_and_judge.Goals as goal

pub returns-clause-checked : goal.returns-clause-checked
returns-clause-checked g c =
    let policy = c.args.policy in
    let own = scanner_of_policy c.args.keeps (g.C.Catalog.lists c.args.catalog.now) (g.I.Identifier.match_of c.args.identifier.now) policy in
    let nfos = c.in_ok-summary.summary.nfos in
    let last = c.licenses_found.new.files in
    let tree = tree_seen (g.T.Tree.content c.args.tree.now) (g.T.Tree.content c.licenses_found.new.tree) (g.T.Tree.fault_count c.args.tree.now) (g.T.Tree.fault_count c.licenses_found.new.tree)
    (g.T.Tree.trace c.args.tree.now) (g.T.Tree.trace c.licenses_found.new.tree) in
    IfOk-weaker c.judge_and_report.result
    (λ checked. ((levels : LintLevels) → PutAtLevels levels c.args.overrides → IsCheckOf levels policy nfos checked) × All (VerdictPoints last (policy_of policy)) (gathered_of_licenses nfos))
    (λ checked. (graph : Graph) (choice : Choice) (levels : LintLevels) → IsChosen graph choice c.args.krates.now → PutAtLevels levels c.args.overrides
    → IsCheckedOn own levels policy tree c.args.files.now last graph choice checked)
    (λ checked both graph choice levels chosen put.
    record { licenses = nfos; gathered = c.in_ok-summary.ensures.gathered graph choice chosen; check = both.0 levels put; points = both.1 })
    (both_of c.judge_and_report.result (λ checked. (levels : LintLevels) → PutAtLevels levels c.args.overrides → IsCheckOf levels policy nfos checked)
    (λ _. All (VerdictPoints last (policy_of policy)) (gathered_of_licenses nfos)) c.judge_and_report.ensures.check c.judge_and_report.ensures.terms)

pub returns-clause-cut : goal.returns-clause-cut
returns-clause-cut g c =
    let policy = c.args.policy in
    let own = scanner_of_policy c.args.keeps (g.C.Catalog.lists c.args.catalog.now) (g.I.Identifier.match_of c.args.identifier.now) policy in
    let tree = tree_seen (g.T.Tree.content c.args.tree.now) (g.T.Tree.content c.licenses_found.new.tree) (g.T.Tree.fault_count c.args.tree.now) (g.T.Tree.fault_count c.licenses_found.new.tree)
    (g.T.Tree.trace c.args.tree.now) (g.T.Tree.trace c.licenses_found.new.tree) in
    on_err c.judge_and_report.result _
    (λ graph choice chosen.
    gather_cut own policy tree c.args.files.now c.licenses_found.new.files graph choice c.in_ok-summary.summary.nfos (c.in_ok-summary.ensures.gathered graph choice chosen))

pub returns-in_err-summary-clause-cut : goal.returns-in_err-summary-clause-cut
returns-in_err-summary-clause-cut g c =
    let p = err_from_is_err_and c.from_residual.result c.from_residual.ensures.1 in
    rw p.1 c.in_err-summary.ensures.cut

pub returns-clause-stands : goal.returns-clause-stands
returns-clause-stands g c =
    IfOk-weaker c.judge_and_report.result (λ (checked : CheckedCrates). checked.policy ≡ c.args.policy) (λ (checked : CheckedCrates). PolicyStands c.licenses_found.new.files checked.policy)
    (λ checked same. subst (PolicyStands c.licenses_found.new.files) (sym same) (policy_grown c.args.files.now c.licenses_found.new.files c.args.policy c.in_ok-summary.ensures.grows c.requires))
    c.judge_and_report.ensures.policy
