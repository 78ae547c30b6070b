-- The headline:
--
-- Whenever `run` ends a check with a `Report`, over any tree that tells its content, the report gives each selected
-- crate exactly one verdict, the one that the policy's bytes define for the crate's record and files less its listed
-- failed reads; and without overrides the status is zero only if none is unlicensed or rejected.
--
-- And the same of what was read:
--
-- Whenever `run` ends a check with a `Report`, over any tree, real folders too, the report gives each selected crate
-- exactly one verdict, the one that the policy's bytes define for the crate's record and files, all as they were read.
-- It read each crate's files, each once for that crate and kind, and nothing else: two crates that share a licence file
-- read it twice, and a file is read for each spelling of its path.
--
-- A report comes with its request, which is that of the words, and whose command is `check`. Without overrides: the
-- request's three lists of codes and levels are empty. Where the request names a catalogue's file or a folder of texts,
-- what these were read as takes the place of what is handed in. That lawful input has its report is said of all
-- commands in one place.
use Rattle.std.specs.Prelude.{◌≡◌, false, All, Some}
use Rattle.std.specs.Option.{ForSome}
use Rattle.tree_core.specs.Content.{Content}
use Rattle.tree_core.specs.Trace.{Says, faults_after}
use Rattle.run_request.specs.declared.check.CheckArgs.{CheckArgs}
use Rattle.run_request.specs.declared.request.Request.{Request}
use Rattle.run_request.specs.declared.request.Subcommand.TheVariants.{Check}
use Rattle.run_overrides.specs.Levels.{HasNoOverrides}
use Rattle.run_found.specs.Hearing.{TreeSeen}
use Rattle.run_found.specs.own_names.Given.{ListsGiven}
use Rattle.run_command.specs.Given.{CommandRequest, command_by}
use Rattle.run_command.specs.Lawful.{CommandHearing, ComesBy, HasBegun, IsRunHeard, run_calls}
use Rattle.run_check.specs.declared.report.Report.{Report}
use Rattle.run_check.specs.Given.{check_options}
use Rattle.run_check.specs.Headline.{is_against}
use Rattle.run_check.specs.Report.{TellsVerdicts}
use Rattle.deny_run.specs.declared.outcome.Outcome.{Outcome}
use Rattle.deny_run.specs.declared.outcome.RunEnd.TheVariants.{Checked}
use Rattle.deny_run.specs.Given.{RunArguments, asked_of}
use Rattle.deny_run.specs.Seen.{RunSeen}
use Rattle.deny_run.specs.Words.{HasRequest}

-- the words ask for this check, and their request is reported
pub record AsksCheck (given : RunArguments) (outcome : Outcome) (args : CheckArgs)
    (asked : CommandRequest) : Type 0 where
  pub request : Request
  pub of_words : HasRequest given request
  pub told : outcome.request ≡ Some request
  pub command : request.command ≡ Check args
  pub is : asked ≡ asked_of given request (check_options request.log_ctx args request.krate_ctx)

-- without overrides the status is zero only if no crate is unlicensed or rejected
abbrev pub ZeroMeansNoneRejected : RunArguments → Outcome → Type 0
ZeroMeansNoneRejected given outcome =
    (report : Report) (args : CheckArgs) (asked : CommandRequest) → outcome.ended ≡ Checked report
    → AsksCheck given outcome args asked
    → HasNoOverrides args.lint_levels → outcome.status ≡ 0
    → All (λ crate. is_against crate.verdict ≡ false) report.crates

-- by what was read: the report gives the verdicts that are asked for by that, and no other call was made
pub record HasVerdictsRead (given : RunArguments) (tree : TreeSeen) (outcome : Outcome) (report : Report) : Type 0 where
  pub args : CheckArgs
  pub asked : CommandRequest
  pub asks : AsksCheck given outcome args asked
  pub hearing : CommandHearing
  pub had : ListsGiven
  pub heard : IsRunHeard asked tree hearing had
  pub tells : TellsVerdicts (command_by asked.command had) hearing.found report

-- by a content: the report gives the verdicts that are asked for by calls that say what the content has, but for those
-- that failed, each of which raised the count of faults
pub record HasVerdictsIn (given : RunArguments) (content : Content) (tree : TreeSeen) (outcome : Outcome)
    (report : Report) : Type 0 where
  pub args : CheckArgs
  pub asked : CommandRequest
  pub asks : AsksCheck given outcome args asked
  pub hearing : CommandHearing
  pub had : ListsGiven
  pub begun : HasBegun hearing tree.count_before
  pub comes : ComesBy asked hearing had
  pub counts : tree.count_after ≡ faults_after tree.count_before (run_calls asked hearing had)
  pub says : All (Says content) (run_calls asked hearing had)
  pub tells : TellsVerdicts (command_by asked.command had) hearing.found report

pub record Headline (given : RunArguments) (seen : RunSeen) (outcome : Outcome) : Type 0 where
  pub read : (report : Report) → outcome.ended ≡ Checked report → HasVerdictsRead given seen.tree outcome report
  pub told : ForSome seen.tree.told (λ content. (report : Report) → outcome.ended ≡ Checked report
      → HasVerdictsIn given content seen.tree outcome report)
  pub status : ZeroMeansNoneRejected given outcome
