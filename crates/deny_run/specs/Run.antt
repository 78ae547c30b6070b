-- What `run` promises.
use Rattle.std.specs.Prelude.{◌≡◌, ℕ, Option, Some, if◌then◌else◌}
use Rattle.tree_core.specs.declared.texts.fault.ReadFault.TheVariants.{Absent}
use Rattle.tree_core.specs.texts.Cause.{ReadCounts}
use Rattle.graph_workspace.specs.declared.error.UnsupportedPart.{UnsupportedPart}
use Rattle.diag_stats.specs.ExitCode.{has_errors}
use Rattle.check_verify.specs.declared.answer.VerifyAnswer.{VerifyAnswer}
use Rattle.check_verify.specs.declared.answer.VerifyAnswer.TheVariants.{Yes, No}
use Rattle.run_request.specs.declared.request.Request.{Request}
use Rattle.run_found.specs.declared.error.Error.{Error}
use Rattle.run_found.specs.declared.error.Error.TheVariants.{ConfigRead, NotCarried}
use Rattle.run_found.specs.Error.{cause_of}
use Rattle.run_command.specs.Given.{CommandOptions}
use Rattle.run_command.specs.Prelude.{IsUntouched}
use Rattle.deny_run.specs.declared.outcome.Outcome.{Outcome}
use Rattle.deny_run.specs.declared.outcome.RunEnd.{RunEnd}
use Rattle.deny_run.specs.declared.outcome.RunEnd.TheVariants.{Checked, Listed, Sampled, Recorded, Verified, Billed}
use Rattle.deny_run.specs.declared.outcome.RunEnd.TheVariants.{Noticed, Told}
use Rattle.deny_run.specs.declared.outcome.RunEnd.TheVariants.{Shown, Usage, Refused}
use Rattle.deny_run.specs.Complete.{AsksCommand, IsComplete}
use Rattle.deny_run.specs.Ends.{HasLabels, IsOutcome}
use Rattle.deny_run.specs.Given.{RunArguments}
use Rattle.deny_run.specs.Headline.{Headline}
use Rattle.deny_run.specs.Seen.{IsLater, RunSeen}
use Rattle.deny_run.specs.VerifiedYes.{VerifiedYes}
use Rattle.deny_run.specs.Words.{AnswersWords}

-- ---- the status

-- 0 where a verdict file is right, else 4
abbrev pub answer_status : VerifyAnswer → ℕ
answer_status Yes = 0
answer_status (No reason) = 4

-- 4 where the check of licences has errors, and where a bill has changed, else 0; that of an answer; 0 after a listing,
-- a sample, a verdict file, a notice, what verdicts rest on, help and the version; 2 after a mistake in the words; 1
-- after a refusal
abbrev pub exit_status : RunEnd → ℕ
exit_status (Checked report) = if has_errors report.stats then 4 else 0
exit_status (Listed reads) = 0
exit_status (Sampled report) = 0
exit_status (Recorded reads) = 0
exit_status (Verified crates) = answer_status crates.answer
exit_status (Billed crates) = if crates.same then 0 else 4
exit_status (Noticed crates) = 0
exit_status (Told reads) = 0
exit_status Shown = 0
exit_status Usage = 2
exit_status (Refused error) = 1

-- the outcome of an end
abbrev pub outcome_of : Option Request → RunEnd → Outcome
outcome_of request ended = record { status = exit_status ended; request = request; ended = ended }

-- ---- of a run

-- a request of which a part is not carried is refused with the first such part, and no call is made
abbrev pub RefusesUnsupported : RunArguments → RunSeen → Outcome → Type 0
RefusesUnsupported given seen outcome =
    (request : Request) (options : CommandOptions) (what : UnsupportedPart) → outcome.request ≡ Some request
    → AsksCommand given request options → options.unsupported ≡ Some what
    → (outcome.ended ≡ Refused (NotCarried what)) × IsUntouched seen.tree

-- What a run over words promises.
pub record IsRun (given : RunArguments) (seen : RunSeen) (result : Outcome) : Type 0 where
  -- The request that is reported is that of the words, where they are taken and have one; what it asks for is answered,
  -- by what was read and nothing else, each refusal by its cause, and written. Else help and the version are shown,
  -- mistakes are reported, and no call is made.
  pub outcome : IsOutcome given seen result.request result.ended
  -- Words that have a request have it reported, and help and mistakes are answered so, but for want of memory and a
  -- refused write of help.
  pub words : AnswersWords given result.request result.ended
  -- Where a part of the request is not carried, that is the refusal, and no call is made.
  pub unsupported : RefusesUnsupported given seen result
  -- No refusal says that a policy is not there: where none is, the one without entries is taken.
  pub policy : result.ended ≡ Refused (ConfigRead Absent) → ⊥
  -- Calls were made on the tree, and nothing else came of it; no count of a sink fell.
  pub later : IsLater seen
  -- A failed read is reported with the tree's counts, between which it rose.
  pub counts : (error : Error) → result.ended ≡ Refused error
      → ReadCounts seen.tree.count_before seen.tree.count_before seen.tree.count_after (cause_of error)
  -- Each label of each finding lies in the text of its file, between characters.
  pub labels : HasLabels result.ended
  -- The status is that of the end.
  pub status : result.status ≡ exit_status result.ended
  -- The headline, in the words of policies, records and verdicts: by what was read, and by the content where the tree
  -- tells it.
  pub headline : Headline given seen result
  -- Where `verify` ends with a yes, the verdict file that was read names just the crates that are selected, and each of
  -- its verdicts is the one that the policy gives: by what was read, and by the content where the tree tells it.
  pub verified : VerifiedYes given seen result
  -- Lawful input without a fault ends as its command ends, but for want of memory.
  pub complete : IsComplete given seen result
