-- Each end of `judged_of`: the licences, and the report.
use Rattle.std.proofs.Common.{refl, sym, subst}
use Rattle.std.specs.List.{All}
use Rattle.std.proofs.lemmas.Result.{err_from_is_err_and}
use Rattle.graph_core.specs.Metadata.{Graph}
use Rattle.graph_core.specs.selection.Choice.{Choice}
use Rattle.graph_core.specs.selection.Listed.{IsChosen}
use Rattle.policy_core.specs.Places.{PolicyStands}
use Rattle.check_core.specs.Labels.{PackLies}
use Rattle.run_request.specs.declared.level.LintLevels.{LintLevels}
use Rattle.run_overrides.specs.Levels.{PutAtLevels}
use Rattle.run_found.specs.Hearing.{tree_seen}
use Rattle.run_found.specs.Licenses.{scanner_of_policy}
use Rattle.run_check.specs.declared.report.Report.{Report}
use Rattle.run_check.specs.Steps.{IsJudgedOn}
use Rattle.run_check.proofs.command.judged_of.Goals as goal

pub returns-clause-judged : goal.returns-clause-judged
returns-clause-judged g c =
    let found = c.args.found in
    let own = scanner_of_policy c.args.keeps (g.C.Catalog.lists c.args.catalog.now) (g.I.Identifier.match_of c.args.identifier.now) found.policy in
    let tree = tree_seen (g.T.Tree.content c.args.tree.now) (g.T.Tree.content c.settle_and_judge.new.tree) (g.T.Tree.fault_count c.args.tree.now) (g.T.Tree.fault_count c.settle_and_judge.new.tree)
    (g.T.Tree.trace c.args.tree.now) (g.T.Tree.trace c.settle_and_judge.new.tree) in
    subst (λ (report : Report). (graph : Graph) (choice : Choice) (levels : LintLevels) → IsChosen graph choice found.krates → PutAtLevels levels found.overrides
    → IsJudgedOn own levels found tree c.args.files graph choice (record { report = report; krates = found.krates })) (sym c.report_of.ensures)
    (λ graph choice levels chosen put.
    record { checked = c.in_ok-checked.checked; is = c.in_ok-checked.ensures.checked graph choice levels chosen put; report = refl; krates = refl })

pub returns-in_err-checked-clause-cut : goal.returns-in_err-checked-clause-cut
returns-in_err-checked-clause-cut g c =
    let p = err_from_is_err_and c.from_residual.result c.from_residual.ensures.1 in
    rw p.1 c.in_err-checked.ensures.cut

pub returns-clause-labels : goal.returns-clause-labels
returns-clause-labels g c = subst (λ (report : Report). All (PackLies report.files) report.findings) (sym c.report_of.ensures) c.in_ok-checked.ensures.labels

pub returns-clause-places : goal.returns-clause-places
returns-clause-places g c = subst (λ (report : Report). PolicyStands report.files report.policy) (sym c.report_of.ensures) c.in_ok-checked.ensures.stands
