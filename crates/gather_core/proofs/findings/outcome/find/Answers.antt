use Rattle.std.specs.List.{All}
use Rattle.std.proofs.Common.{List, subst, sym}
use Rattle.graph_core.specs.Krate.{record_of}
use Rattle.diag_core.specs.File.{File}
use Rattle.gather_core.specs.declared.findings.outcome.PlacedFindings.{PlacedFindings}
use Rattle.gather_core.specs.findings.Cuts.{LabelLies, StandsAtCoord, expression_text, labels_of}
use Rattle.gather_core.specs.findings.Findings.{files_with, points_of}
use Rattle.gather_core.specs.findings.Views.{case_view, outcome_view}
use Rattle.gather_core.proofs.findings.CutLemmas.{cuts_by, lie_by, stands_by}
use Rattle.gather_core.proofs.findings.outcome.find.Goals as goal

pub returns-clause-cuts : goal.returns-clause-cuts
returns-clause-cuts c =
    let case = c.args.case.now in
    rw (c.in_ok-points.ensures.points, c.in_ok-points.ensures.files)
    (cuts_by (record_of case.krate.now) case.folder.now case.faults.now (outcome_view case.settles) c.args.files.now case.location (outcome_view case.settles)
    c.requires.located c.requires.faults c.in_ok-points.ensures.marks)

pub returns-clause-inside : goal.returns-clause-inside
returns-clause-inside c =
    let case = c.args.case.now in
    let view = case_view case in
    let said : All (LabelLies (files_with view c.args.files.now)) (labels_of (points_of view c.args.files.now).findings) =
    lie_by (record_of case.krate.now) case.folder.now case.faults.now (outcome_view case.settles) c.args.files.now case.location (outcome_view case.settles)
    c.requires.located c.requires.faults c.in_ok-points.ensures.marks in
    subst (λ (files : List File). All (LabelLies files) (labels_of c.in_ok-points.points.findings)) (sym c.in_ok-points.ensures.files)
    (subst (λ (found : PlacedFindings). All (LabelLies (files_with view c.args.files.now)) (labels_of found.findings)) (sym c.in_ok-points.ensures.points) said)

pub returns-clause-expression : goal.returns-clause-expression
returns-clause-expression c =
    let case = c.args.case.now in
    let view = case_view case in
    let said : StandsAtCoord (files_with view c.args.files.now) (points_of view c.args.files.now).expression (expression_text view view.outcome) =
    stands_by (record_of case.krate.now) case.folder.now case.faults.now (outcome_view case.settles) c.args.files.now case.location (outcome_view case.settles)
    c.requires.located c.in_ok-points.ensures.marks in
    subst (λ (files : List File). StandsAtCoord files c.in_ok-points.points.expression (expression_text view view.outcome)) (sym c.in_ok-points.ensures.files)
    (subst (λ (found : PlacedFindings). StandsAtCoord (files_with view c.args.files.now) found.expression (expression_text view view.outcome)) (sym c.in_ok-points.ensures.points) said)
