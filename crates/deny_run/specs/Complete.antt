-- Lawful input without a fault: where nothing refuses the words, the request and the files, and no count rises, a run
-- ends as its command does, or for want of memory. The file that is to be verified may be refused too, and so may what
-- goes into a bill and the file that it is compared with.
use Rattle.std.specs.Prelude.{◌≡◌, ◌⊎◌, List, Some, ⊤}
use Rattle.std.specs.Option.{ForSome}
use Rattle.tree_core.specs.Call.{Call}
use Rattle.tree_core.specs.Content.{Content}
use Rattle.run_request.specs.declared.request.Request.{Request}
use Rattle.run_request.specs.declared.request.Subcommand.{Subcommand}
use Rattle.run_request.specs.declared.request.Subcommand.TheVariants.{Check, List as Listing, Sample, Record, Verify}
use Rattle.run_request.specs.declared.request.Subcommand.TheVariants.{Bill, Notice, Why}
use Rattle.run_found.specs.declared.error.Error.{Error}
use Rattle.run_found.specs.declared.error.Error.TheVariants.{NoSuchCrate, NotAccepted, NoText, RecordRead, RecordSyntax}
use Rattle.run_found.specs.declared.error.Error.TheVariants.{BillText, BillRead, BillSyntax}
use Rattle.run_found.specs.Error.{MayEndLawful, cause_of}
use Rattle.run_found.specs.own_names.Given.{ListsGiven}
use Rattle.run_command.specs.Given.{CommandOptions}
use Rattle.run_command.specs.Lawful.{CommandHearing, IsLawfulOver, IsLawfulRun}
use Rattle.run_command.specs.Stops.{PolicyAndCrates}
use Rattle.deny_run.specs.declared.outcome.Outcome.{Outcome}
use Rattle.deny_run.specs.declared.outcome.RunEnd.{RunEnd}
use Rattle.deny_run.specs.declared.outcome.RunEnd.TheVariants.{Checked, Listed, Recorded, Verified, Billed}
use Rattle.deny_run.specs.declared.outcome.RunEnd.TheVariants.{Noticed, Told, Refused}
use Rattle.deny_run.specs.Given.{RunArguments, asked_of, options_of}
use Rattle.deny_run.specs.Seen.{IsWithoutFault, RunSeen}
use Rattle.deny_run.specs.Words.{HasRequest}

-- the end is one of these, or a refusal that may be
abbrev pub EndsAs : {X : Type 0} → (X → RunEnd) → (Error → Type 0) → RunEnd → Type 0
EndsAs {X} end_by MayRefuse ended =
    ((value : X) × (ended ≡ end_by value)) ⊎ ((error : Error) × (ended ≡ Refused error) × MayRefuse error)

abbrev pub IsWanting : Error → Type 0
IsWanting error = MayEndLawful (cause_of error)

-- the verdict file was not read or is none, or memory was wanting
abbrev pub MayEndVerify : Error → Type 0
MayEndVerify (RecordRead fault reads) = ⊤
MayEndVerify RecordSyntax = ⊤
MayEndVerify error = IsWanting error

-- a crate's name does not fit, the file was not read or is no bill, or memory was wanting
abbrev pub MayEndBill : Error → Type 0
MayEndBill (BillText id) = ⊤
MayEndBill (BillRead fault reads) = ⊤
MayEndBill BillSyntax = ⊤
MayEndBill error = IsWanting error

-- a crate is not accepted, a text is missing, or memory was wanting
abbrev pub MayEndNotice : Error → Type 0
MayEndNotice (NotAccepted id reads) = ⊤
MayEndNotice (NoText id key reads own) = ⊤
MayEndNotice error = IsWanting error

-- a word names no crate, or memory was wanting
abbrev pub MayEndWhy : Error → Type 0
MayEndWhy (NoSuchCrate word) = ⊤
MayEndWhy error = IsWanting error

-- how a command ends; of a sample it is said where that is described
abbrev pub EndsLawful : Subcommand → RunEnd → Type 0
EndsLawful (Check args) ended = EndsAs Checked IsWanting ended
EndsLawful (Listing args) ended = EndsAs Listed IsWanting ended
EndsLawful (Sample size) ended = ⊤
EndsLawful Record ended = EndsAs Recorded IsWanting ended
EndsLawful (Verify path) ended = EndsAs Verified MayEndVerify ended
EndsLawful (Bill args) ended = EndsAs Billed MayEndBill ended
EndsLawful Notice ended = EndsAs Noticed MayEndNotice ended
EndsLawful (Why words) ended = EndsAs Told MayEndWhy ended

-- the words ask for a command with these options
pub record AsksCommand (given : RunArguments) (request : Request) (options : CommandOptions) : Type 0 where
  pub of_words : HasRequest given request
  pub options_are : options_of request request.command ≡ Some options

-- by what was read
abbrev pub IsCompleteRead : RunArguments → RunSeen → Outcome → Type 0
IsCompleteRead given seen outcome =
    (request : Request) (options : CommandOptions) (hearing : CommandHearing) (had : ListsGiven) (behind : List Call)
    (asked : PolicyAndCrates) → AsksCommand given request options
    → IsLawfulRun (asked_of given request options) seen.tree hearing had behind asked → IsWithoutFault seen
    → EndsLawful request.command outcome.ended

-- by a content
abbrev pub IsCompleteOver : RunArguments → Content → RunSeen → Outcome → Type 0
IsCompleteOver given content seen outcome =
    (request : Request) (options : CommandOptions) (hearing : CommandHearing) (had : ListsGiven)
    (asked : PolicyAndCrates) → AsksCommand given request options
    → IsLawfulOver (asked_of given request options) content seen.tree.count_before hearing had asked
    → IsWithoutFault seen → EndsLawful request.command outcome.ended

pub record IsComplete (given : RunArguments) (seen : RunSeen) (outcome : Outcome) : Type 0 where
  pub read : IsCompleteRead given seen outcome
  pub told : ForSome seen.tree.told (λ content. IsCompleteOver given content seen outcome)
