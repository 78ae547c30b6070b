-- What a yes of `verify` means:
--
-- Where `verify` ends with a yes, over any tree, real folders too, the verdict file that was read names just the crates
-- that are selected, and each of its verdicts is the one that the policy's bytes define for the crate's record and
-- files, all as they were read.
--
-- And by a content, where the tree tells it: by calls that say what the content has, but for those that failed, each of
-- which raised the count of faults. The content has the verdict file, since its read gave bytes.
use Rattle.std.specs.Prelude.{◌≡◌, ℕ, List, [], ◌∷◌, ◌++◌, All, Some}
use Rattle.std.specs.Option.{ForSome}
use Rattle.tree_core.specs.Call as call
use Rattle.tree_core.specs.Call.{Call}
use Rattle.tree_core.specs.Content.{Content}
use Rattle.tree_core.specs.Trace.{Says, faults_after}
use Rattle.tree_core.specs.texts.Heard.{read_of}
use Rattle.check_verify.specs.declared.answer.VerifyAnswer.TheVariants.{Yes}
use Rattle.run_request.specs.declared.request.Request.{Request}
use Rattle.run_request.specs.declared.request.Subcommand.TheVariants.{Verify}
use Rattle.run_found.specs.Hearing.{MadeOn, TreeSeen}
use Rattle.run_found.specs.own_names.Given.{ListsGiven}
use Rattle.run_command.specs.Carried.{plain_options}
use Rattle.run_command.specs.Given.{CommandRequest, command_by}
use Rattle.run_command.specs.Lawful.{CommandHearing, ComesBy, HasBegun, run_calls}
use Rattle.run_record.specs.declared.verdicts.VerifiedCrates.{VerifiedCrates}
use Rattle.run_record.specs.Yes.{TellsRight}
use Rattle.deny_run.specs.declared.outcome.Outcome.{Outcome}
use Rattle.deny_run.specs.declared.outcome.RunEnd.TheVariants.{Verified}
use Rattle.deny_run.specs.Given.{RunArguments, asked_of}
use Rattle.deny_run.specs.Seen.{RunSeen}
use Rattle.deny_run.specs.Words.{HasRequest}

-- the words ask that the verdict file at this path be verified, and their request is reported
pub record AsksVerify (given : RunArguments) (outcome : Outcome) (path : List ℕ) (asked : CommandRequest) : Type 0 where
  pub request : Request
  pub of_words : HasRequest given request
  pub told : outcome.request ≡ Some request
  pub command : request.command ≡ Verify path
  pub is : asked ≡ asked_of given request (plain_options request.log_ctx request.krate_ctx)

-- the calls of the run up to its command and by it, and then the read of the file, which gave these bytes
abbrev pub verify_calls : CommandRequest → CommandHearing → ListsGiven → List ℕ → List ℕ → List Call
verify_calls asked hearing had path bytes = run_calls asked hearing had ++ read_of path (call.bytes bytes) ∷ []

-- By what was read the bytes of the verdict file are the spelling of a record that is right about the crates that are
-- selected. This is so of the calls: they were made, or they say what a content has.
pub record HasRightFile (given : RunArguments) (outcome : Outcome) (count : ℕ)
    (IsSoOf : List Call → Type 0) : Type 0 where
  pub path : List ℕ
  pub asked : CommandRequest
  pub asks : AsksVerify given outcome path asked
  pub hearing : CommandHearing
  pub had : ListsGiven
  pub begun : HasBegun hearing count
  pub comes : ComesBy asked hearing had
  pub bytes : List ℕ
  pub calls : IsSoOf (verify_calls asked hearing had path bytes)
  pub tells : TellsRight (command_by asked.command had) hearing.found bytes

-- calls say what a content has, but for those that failed
pub record SayOf (content : Content) (tree : TreeSeen) (calls : List Call) : Type 0 where
  pub counts : tree.count_after ≡ faults_after tree.count_before calls
  pub says : All (Says content) calls

pub record VerifiedYes (given : RunArguments) (seen : RunSeen) (outcome : Outcome) : Type 0 where
  -- by what was read: these calls were made, and no other
  pub read : (crates : VerifiedCrates) → outcome.ended ≡ Verified crates → crates.answer ≡ Yes
      → HasRightFile given outcome seen.tree.count_before (MadeOn seen.tree)
  -- by a content
  pub told : ForSome seen.tree.told (λ content. (crates : VerifiedCrates) → outcome.ended ≡ Verified crates
      → crates.answer ≡ Yes → HasRightFile given outcome seen.tree.count_before (SayOf content seen.tree))
