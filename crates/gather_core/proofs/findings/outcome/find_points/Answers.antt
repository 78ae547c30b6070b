use Rattle.std.proofs.Common.{OnOk, sym, subst}
use Rattle.gather_core.specs.declared.findings.case.ExpressionBasis.{ExpressionBasis}
use Rattle.gather_core.specs.findings.Cuts.{MarksLie}
use Rattle.gather_core.specs.findings.Views.{case_view, outcome_view}
use Rattle.gather_core.proofs.findings.GrowLemmas.{grows_itself}
use Rattle.gather_core.proofs.findings.outcome.find_points.Goals as goal

pub returns-in-Files-clause-marks : goal.returns-in-Files-clause-marks
returns-in-Files-clause-marks c =
    subst (λ (settles : ExpressionBasis). OnOk c.find_by_files.result (MarksLie (case_view c.args.case.now) (outcome_view settles))) (sym c.in-Files.is) c.find_by_files.ensures.marks

-- a location leaves the table as it is
pub returns-in-Some-clause-grows : goal.returns-in-Some-clause-grows
returns-in-Some-clause-grows c = grows_itself c.args.files.now
