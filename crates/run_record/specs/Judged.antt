-- Reports that can be recorded.
use Rattle.std.specs.Prelude.{ℕ, List, map}
use Rattle.std.specs.List.{AllByRecursion}
use Rattle.graph_core.specs.Krate.{CrateRecord}
use Rattle.graph_core.specs.Metadata.{AreRising}
use Rattle.policy_core.specs.valid.Policy.{Policy}
use Rattle.check_core.specs.Verdicts.{IsVerdict}
use Rattle.check_core.specs.declared.report.CrateReport.{CrateReport}

-- the verdict is that on a crate by a policy, of which some exceptions count, and has what shows it
pub record IsJudgedReport (report : CrateReport) : Type 0 where
  pub policy : Policy
  pub krate : CrateRecord
  pub counted : List ℕ
  pub verdict : IsVerdict policy krate counted report.expression report.verdict

-- so each is, and their ids rise
pub record AreJudged (reports : List CrateReport) : Type 0 where
  pub rising : AreRising (map (λ (report : CrateReport). report.id) reports)
  pub each : AllByRecursion IsJudgedReport reports
