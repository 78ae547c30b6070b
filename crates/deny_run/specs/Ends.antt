-- How a run over a request ends.
use Rattle.std.specs.Prelude.{◌≡◌, ◌≤◌, ℕ, List, All, Option, Some, None, Result, Ok, Err, IfErr, IfOk, ⊤}
use Rattle.tree_core.specs.texts.Cause.{ReadCounts}
use Rattle.spdx_terms.specs.catalog.Catalog.{CatalogLists}
use Rattle.spdx_terms.specs.declared.catalog.identifier.Match.{Match}
use Rattle.check_core.specs.Labels.{PackLies}
use Rattle.run_request.specs.declared.bill.BillArgs.{BillArgs}
use Rattle.run_request.specs.declared.list.ListArgs.{ListArgs}
use Rattle.run_request.specs.declared.request.Request.{Request}
use Rattle.run_request.specs.declared.request.Subcommand.{Subcommand}
use Rattle.run_request.specs.declared.request.Subcommand.TheVariants.{Check, List as Listing, Sample, Record, Verify}
use Rattle.run_request.specs.declared.request.Subcommand.TheVariants.{Bill, Notice, Why}
use Rattle.run_found.specs.declared.error.Error.{Error}
use Rattle.run_found.specs.declared.error.Error.TheVariants.{Memory}
use Rattle.run_found.specs.declared.reads.CrateRead.{CrateRead}
use Rattle.run_found.specs.Error.{cause_of}
use Rattle.run_found.specs.Hearing.{TreeSeen}
use Rattle.run_found.specs.own_names.Given.{ListsGiven}
use Rattle.run_found.specs.Written.{IsSilent, SinkSeen}
use Rattle.run_command.specs.Carried.{plain_options}
use Rattle.run_command.specs.Given.{CommandArguments, CommandRequest, command_asked}
use Rattle.run_command.specs.Prelude.{IsUntouched, Runs, RunsBy}
use Rattle.run_check.specs.Given.{check_options}
use Rattle.run_list.specs.Given.{list_options}
use Rattle.run_list.specs.Listing.{Lists}
use Rattle.run_record.specs.declared.verdicts.VerifiedCrates.{VerifiedCrates}
use Rattle.run_record.specs.Recorded.{Records}
use Rattle.run_record.specs.Verified.{Verifies}
use Rattle.run_bill.specs.declared.billed.BilledCrates.{BilledCrates}
use Rattle.run_bill.specs.Billed.{Bills}
use Rattle.run_notice.specs.declared.noticed.NoticedCrates.{NoticedCrates}
use Rattle.run_notice.specs.Noticed.{Notices}
use Rattle.run_why.specs.Given.{why_options}
use Rattle.run_why.specs.Why.{Tells}
use Rattle.deny_run.specs.declared.answer.Answered.{Answered}
use Rattle.deny_run.specs.declared.outcome.RunEnd.{RunEnd}
use Rattle.deny_run.specs.declared.outcome.RunEnd.TheVariants.{Checked, Listed, Sampled, Recorded, Verified, Billed}
use Rattle.deny_run.specs.declared.outcome.RunEnd.TheVariants.{Noticed, Told, Refused}
use Rattle.deny_run.specs.Check.{Checks}
use Rattle.deny_run.specs.Given.{RunArguments}
use Rattle.deny_run.specs.Sample.{Samples}
use Rattle.deny_run.specs.Seen.{EndsLine, RunSeen, sink_from, sink_to}
use Rattle.deny_run.specs.Words.{AnswersNone, AnswersWords, HasRequest}

-- ---- the end of an answer

abbrev pub end_of : Result RunEnd Error → RunEnd
end_of (Ok ended) = ended
end_of (Err error) = Refused error

abbrev pub as_end : {X : Type 0} → (X → RunEnd) → Result X Error → Result RunEnd Error
as_end {X} end_by (Ok value) = Ok (end_by value)
as_end {X} end_by (Err error) = Err error

-- what is answered is the end of what a command answers, of which this is so
pub record IsEndBy {X : Type 0} (end_by : X → RunEnd) (IsSo : Result X Error → Type 0)
    (answer : Result RunEnd Error) : Type 0 where
  pub value : Result X Error
  pub is : answer ≡ as_end end_by value
  pub is_so : IsSo value

-- ---- a request

-- a command runs behind what comes before it, by its options
abbrev pub RunsAs : {X : Type 0} → (X → RunEnd) → CommandRequest
    → (SinkSeen → SinkSeen → CommandArguments → TreeSeen → Result X Error → Type 0) → RunSeen → Result RunEnd Error
    → Type 0
RunsAs {X} end_by asked IsDone seen answer =
    IsEndBy end_by
    (λ (value : Result X Error). Runs asked (IsDone seen.out seen.err) seen.tree seen.err seen.out value) answer

-- the same of a command that needs the names and texts that count
abbrev pub RunsByTexts : {X : Type 0} → (X → RunEnd) → CommandRequest
    → (SinkSeen → SinkSeen → ListsGiven → CommandArguments → TreeSeen → Result X Error → Type 0) → RunSeen
    → Result RunEnd Error → Type 0
RunsByTexts {X} end_by asked IsDone seen answer =
    IsEndBy end_by
    (λ (value : Result X Error). RunsBy asked (IsDone seen.out seen.err) seen.tree seen.err seen.out value) answer

-- so a listing, a verdict file, of which nothing is written where memory was wanting, whether one is right, and a bill
abbrev pub ListsAs : ListArgs → SinkSeen → SinkSeen → CommandArguments → TreeSeen → Result (List CrateRead) Error
    → Type 0
ListsAs args out err own tree value = Lists (record { command = own; args = args }) tree err out value

abbrev pub RecordsAs : SinkSeen → SinkSeen → CommandArguments → TreeSeen → Result (List CrateRead) Error → Type 0
RecordsAs out err own tree value = Records own tree err out value × (value ≡ Err Memory → IsSilent out)

abbrev pub VerifiesAs : List ℕ → SinkSeen → SinkSeen → CommandArguments → TreeSeen → Result VerifiedCrates Error
    → Type 0
VerifiesAs path out err own tree value = Verifies own path tree err out value

abbrev pub BillsAs : BillArgs → SinkSeen → SinkSeen → CommandArguments → TreeSeen → Result BilledCrates Error → Type 0
BillsAs args out err own tree value = Bills own args tree err out value

-- and a notice, by the texts that count
abbrev pub NoticesAs : SinkSeen → SinkSeen → ListsGiven → CommandArguments → TreeSeen → Result NoticedCrates Error
    → Type 0
NoticesAs out err lists own tree value = Notices lists.texts.text_of own tree err out value

-- and what verdicts rest on
abbrev pub TellsAs : List (List ℕ) → SinkSeen → SinkSeen → CommandArguments → TreeSeen → Result (List CrateRead) Error
    → Type 0
TellsAs words out err own tree value = Tells (record { command = own; words = words }) tree err out value

-- what a run over a request answers, by its command; a sample makes no call on the tree
abbrev pub Answers : CatalogLists → (List ℕ → Match) → (List ℕ → Option (List ℕ)) → Request → Subcommand → RunSeen
    → Result RunEnd Error → Type 0
Answers lists match_of text_of request (Check args) seen answer =
    RunsAs Checked (command_asked lists match_of text_of request (check_options request.log_ctx args request.krate_ctx))
    (Checks args.show_stats) seen answer
Answers lists match_of text_of request (Listing args) seen answer =
    RunsAs Listed (command_asked lists match_of text_of request (list_options request.log_ctx args request.krate_ctx))
    (ListsAs args) seen answer
Answers lists match_of text_of request (Sample size) seen answer =
    IsEndBy Sampled (λ value. IsUntouched seen.tree × Samples size lists match_of seen.out seen.err value) answer
Answers lists match_of text_of request Record seen answer =
    RunsAs Recorded (command_asked lists match_of text_of request (plain_options request.log_ctx request.krate_ctx))
    RecordsAs seen answer
Answers lists match_of text_of request (Verify path) seen answer =
    RunsAs Verified (command_asked lists match_of text_of request (plain_options request.log_ctx request.krate_ctx))
    (VerifiesAs path) seen answer
Answers lists match_of text_of request (Bill args) seen answer =
    RunsAs Billed (command_asked lists match_of text_of request (plain_options request.log_ctx request.krate_ctx))
    (BillsAs args) seen answer
Answers lists match_of text_of request Notice seen answer =
    RunsByTexts Noticed (command_asked lists match_of text_of request (plain_options request.log_ctx request.krate_ctx))
    NoticesAs seen answer
Answers lists match_of text_of request (Why words) seen answer =
    RunsAs Told
    (command_asked lists match_of text_of request (why_options request.log_ctx request.krate_ctx words))
    (TellsAs words) seen answer

-- ---- words

-- The answer to words: where they are taken and ask for something it is that to their request; else no call is made,
-- help and the version are shown, and mistakes are reported.
abbrev pub AnswersOf : RunArguments → Option Request → RunSeen → Result RunEnd Error → Type 0
AnswersOf given (Some request) seen answer =
    HasRequest given request × Answers given.lists given.match_of given.text_of request request.command seen answer
AnswersOf given None seen answer = IsUntouched seen.tree × AnswersNone given seen answer

-- each label of each finding of a report lies in the text of its file, between characters
abbrev pub HasLabels : RunEnd → Type 0
HasLabels (Checked report) = All (PackLies report.files) report.findings
HasLabels _ = ⊤

-- what is so of it before the line of a refusal is written
pub record IsAnswered (given : RunArguments) (seen : RunSeen) (answered : Answered) : Type 0 where
  pub answers : AnswersOf given answered.request seen answered.answer
  pub words : AnswersWords given answered.request (end_of answered.answer)
  pub labels : IfOk answered.answer HasLabels
  pub counts : IfErr answered.answer
      (λ error. ReadCounts seen.tree.count_before seen.tree.count_before seen.tree.count_after (cause_of error))

-- ---- a run

-- The end is that of an answer, of which this is so by what was seen up to a moment; behind that the line of a refusal
-- was written, or a prefix of it where `err` refused, and nothing else.
pub record Ends (IsAnswer : RunSeen → Result RunEnd Error → Type 0) (seen : RunSeen) (ended : RunEnd) : Type 0 where
  pub answer : Result RunEnd Error
  pub is : ended ≡ end_of answer
  pub written : Option (List ℕ)
  pub count : ℕ
  pub early : seen.err.before ≤ count
  pub late : count ≤ seen.err.after
  pub answers : IsAnswer (record seen { err = sink_to seen.err written count }) answer
  pub line : EndsLine answer (sink_from seen.err written count)

-- so of the outcome of words
abbrev pub IsOutcome : RunArguments → RunSeen → Option Request → RunEnd → Type 0
IsOutcome given seen request ended = Ends (AnswersOf given request) seen ended
