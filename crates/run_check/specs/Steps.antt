-- What the steps of a check answer, one by one.
use Rattle.std.specs.Prelude.{◌≡◌, List, All}
use Rattle.graph_core.specs.Metadata.{Graph}
use Rattle.diag_core.specs.File.{File}
use Rattle.graph_core.specs.selection.Choice.{Choice}
use Rattle.gather_license.specs.expression.Scanned.{Scanner}
use Rattle.policy_core.specs.valid.View.{policy_of}
use Rattle.policy_core.specs.declared.valid.policy.ValidConfig.{ValidConfig}
use Rattle.gather_core.specs.declared.summary.KrateLicense.{KrateLicense}
use Rattle.spdx_core.specs.declared.certificates.verdict.Verdict.{Verdict}
use Rattle.check_core.specs.Check.{AreVerdicts, findings_of}
use Rattle.check_core.specs.Labels.{VerdictPoints}
use Rattle.check_core.specs.Reports.{reports_of}
use Rattle.check_core.specs.Summary.{gathered_of_licenses}
use Rattle.diag_stats.specs.Counts.{counts_of}
use Rattle.run_request.specs.declared.level.LintLevels.{LintLevels}
use Rattle.run_overrides.specs.Levels.{packs_at}
use Rattle.run_found.specs.Hearing.{TreeSeen}
use Rattle.run_found.specs.Licenses.{IsGatheredOn}
use Rattle.run_command.specs.declared.crates.CratesFound.{CratesFound}
use Rattle.run_check.specs.declared.check.CheckedCrates.{CheckedCrates}
use Rattle.run_check.specs.declared.judged.JudgedCrates.{JudgedCrates}
use Rattle.run_check.specs.declared.report.Report.{Report}

-- ---- one crate after another

-- what a check of licences comes to, by the verdicts on them, with findings at the levels that are asked for
abbrev pub checked_by : LintLevels → ValidConfig → List KrateLicense → List Verdict → CheckedCrates
checked_by levels policy licenses verdicts = record {
  policy = policy;
  crates = reports_of licenses verdicts;
  findings = packs_at levels (findings_of policy (gathered_of_licenses licenses) verdicts);
}

pub record IsCheckOf (levels : LintLevels) (policy : ValidConfig) (licenses : List KrateLicense)
    (checked : CheckedCrates) : Type 0 where
  pub verdicts : List Verdict
  pub are : AreVerdicts (policy_of policy) (gathered_of_licenses licenses) verdicts
  pub is : checked ≡ checked_by levels policy licenses verdicts

-- the report of a check, with the file table that is left
abbrev pub report_with : CheckedCrates → List File → Report
report_with checked files = record {
  stats = counts_of checked.findings;
  policy = checked.policy;
  crates = checked.crates;
  findings = checked.findings;
  files = files;
}

-- ---- over a tree

-- The licences of the crates that are checked were settled on the tree, from a file table on to the one that is left,
-- and this is the check of them.
pub record IsCheckedOn (scanner : Scanner) (levels : LintLevels) (policy : ValidConfig) (tree : TreeSeen)
    (files last : List File) (graph : Graph) (choice : Choice) (checked : CheckedCrates) : Type 0 where
  pub licenses : List KrateLicense
  pub gathered : IsGatheredOn scanner policy tree files last graph choice licenses
  pub check : IsCheckOf levels policy licenses checked
  pub points : All (VerdictPoints last (policy_of policy)) (gathered_of_licenses licenses)

-- the report is that of this check, and the crates beside it are those that were looked at
pub record IsJudgedOn (scanner : Scanner) (levels : LintLevels) (found : CratesFound) (tree : TreeSeen)
    (files : List File) (graph : Graph) (choice : Choice) (judged : JudgedCrates) : Type 0 where
  pub checked : CheckedCrates
  pub is : IsCheckedOn scanner levels found.policy tree files judged.report.files graph choice checked
  pub report : judged.report ≡ report_with checked judged.report.files
  pub krates : judged.krates ≡ found.krates
