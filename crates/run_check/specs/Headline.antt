-- The headline of a check, over a request:
--
-- Whenever a check ends with a `Report`, over any tree that tells its content, the report gives each selected crate
-- exactly one verdict, the one that the policy's bytes define for the crate's record and files less its listed failed
-- reads; without overrides no finding is an error only if no crate is unlicensed or rejected; and lawful input without
-- a fault gives a `Report` or want of memory.
--
-- And the same of what was read, over any tree, real folders too. Without overrides: the request's three lists of codes
-- and levels are empty. Lawful: a request and files that nothing refuses.
use Rattle.std.specs.Prelude.{◌≡◌, Bool, true, false, List, All, Result, Ok}
use Rattle.tree_core.specs.Call.{Call}
use Rattle.tree_core.specs.Content.{Content}
use Rattle.tree_core.specs.Faults.{Rose}
use Rattle.tree_core.specs.Trace.{Says, faults_after}
use Rattle.spdx_core.specs.declared.certificates.verdict.Verdict.{Verdict}
use Rattle.spdx_core.specs.declared.certificates.verdict.Verdict.TheVariants.{Accepted, Rejected, Skipped, Unlicensed}
use Rattle.diag_stats.specs.ExitCode.{has_errors}
use Rattle.run_overrides.specs.Levels.{HasNoOverrides}
use Rattle.run_found.specs.declared.error.Error.{Error}
use Rattle.run_found.specs.Error.{EndsLawful}
use Rattle.run_found.specs.Hearing.{RequestHearing, TreeSeen}
use Rattle.run_found.specs.Written.{SinkSeen}
use Rattle.run_command.specs.Complete.{IsLawfulIn, IsLawfulRead}
use Rattle.run_command.specs.Found.{IsHeard, calls_of}
use Rattle.run_command.specs.Given.{CommandArguments}
use Rattle.run_command.specs.Stops.{PolicyAndCrates}
use Rattle.run_check.specs.declared.report.Report.{Report}
use Rattle.run_check.specs.Report.{TellsVerdicts}

-- whether the verdict is against the crate
abbrev pub is_against : Verdict → Bool
is_against (Accepted choice hits) = false
is_against (Rejected least blocks) = true
is_against Skipped = false
is_against Unlicensed = true

-- without overrides no finding is an error only if no crate is unlicensed or rejected
abbrev pub ZeroMeansNoneRejected : CommandArguments → Result Report Error → Type 0
ZeroMeansNoneRejected given answer =
    (report : Report) → answer ≡ Ok report → HasNoOverrides given.options.levels → has_errors report.stats ≡ false
    → All (λ crate. is_against crate.verdict ≡ false) report.crates

-- ---- by what was read

-- the report gives the verdicts that are asked for by what was read, and no other call was made
pub record HasVerdictsRead (given : CommandArguments) (tree : TreeSeen) (report : Report) : Type 0 where
  pub hearing : RequestHearing
  pub heard : IsHeard given tree hearing
  pub tells : TellsVerdicts given hearing report

pub record CheckHeadlineRead (given : CommandArguments) (tree : TreeSeen) (err : SinkSeen)
    (answer : Result Report Error) : Type 0 where
  pub verdicts : (report : Report) → answer ≡ Ok report → HasVerdictsRead given tree report
  pub status : ZeroMeansNoneRejected given answer
  pub lawful : (hearing : RequestHearing) (behind : List Call) (asked : PolicyAndCrates)
      → IsLawfulRead given tree hearing behind asked → (Rose err.before err.after → ⊥) → EndsLawful answer

-- ---- by a content

-- the report gives the verdicts that are asked for by calls that say what the content has, but for those that failed,
-- each of which raised the count of faults
pub record HasVerdictsIn (given : CommandArguments) (content : Content) (tree : TreeSeen)
    (report : Report) : Type 0 where
  pub hearing : RequestHearing
  pub begun : hearing.begun ≡ tree.count_before
  pub counts : tree.count_after ≡ faults_after tree.count_before (calls_of given hearing)
  pub says : All (Says content) (calls_of given hearing)
  pub tells : TellsVerdicts given hearing report

pub record CheckHeadline (given : CommandArguments) (content : Content) (tree : TreeSeen) (err : SinkSeen)
    (answer : Result Report Error) : Type 0 where
  pub verdicts : (report : Report) → answer ≡ Ok report → HasVerdictsIn given content tree report
  pub status : ZeroMeansNoneRejected given answer
  pub lawful : (hearing : RequestHearing) (asked : PolicyAndCrates) → IsLawfulIn given content tree hearing asked
      → (Rose err.before err.after → ⊥) → EndsLawful answer
