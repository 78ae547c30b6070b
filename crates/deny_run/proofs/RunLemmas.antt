-- What is so of each end of a run, by what its command answers: which calls were made, what is not carried, and what no command is refused
-- with.
use Rattle.std.proofs.Common.{◌≡◌, ◌∙◌, refl, sym, ap, subst, ℕ, List, Option, Some, None, Result, Ok, Err, IfErr}
use Rattle.tree_core.proofs.MadeLemmas.{some_made}
use Rattle.tree_core.specs.texts.Cause.{ReadCounts}
use Rattle.tree_core.specs.declared.texts.fault.ReadFault.TheVariants.{Absent}
use Rattle.graph_workspace.specs.declared.error.UnsupportedPart.{UnsupportedPart}
use Rattle.spdx_terms.specs.catalog.Catalog.{CatalogLists}
use Rattle.spdx_terms.specs.declared.catalog.identifier.Match.{Match}
use Rattle.run_request.specs.declared.list.ListArgs.{ListArgs}
use Rattle.run_request.specs.declared.request.Request.{Request}
use Rattle.run_request.specs.declared.request.Subcommand.{Subcommand}
use Rattle.run_request.specs.declared.request.Subcommand.TheVariants.{Check, List as Listing, Sample, Record, Verify, Bill, Notice, Why}
use Rattle.run_found.specs.declared.error.Error.{Error}
use Rattle.run_found.specs.declared.error.Error.TheVariants.{ConfigRead, Memory, NotCarried}
use Rattle.run_found.specs.declared.reads.CrateRead.{CrateRead}
use Rattle.run_found.specs.Error.{cause_of}
use Rattle.run_found.specs.Hearing.{HasMade, TreeSeen}
use Rattle.run_found.specs.own_names.Given.{ListsGiven}
use Rattle.run_found.specs.Written.{SinkSeen}
use Rattle.run_command.specs.Given.{CommandArguments, CommandRequest, CommandOptions, command_asked}
use Rattle.run_command.specs.Prelude.{IsUntouched, RunsBy}
use Rattle.run_command.proofs.AbsentLemmas.{runs_never}
use Rattle.run_command.proofs.PreludeLemmas.{runs_made, runs_unsupported}
use Rattle.run_command.proofs.WrittenLemmas.{writes_made, writes_never}
use Rattle.run_check.specs.declared.report.Report.{Report}
use Rattle.run_list.specs.Listed.{listing_text}
use Rattle.run_list.specs.Listing.{IsListing}
use Rattle.run_record.specs.Recorded.{IsRecorded, file_in, reads_in}
use Rattle.run_record.specs.declared.verdicts.VerifiedCrates.{VerifiedCrates}
use Rattle.deny_run.specs.declared.outcome.RunEnd.{RunEnd}
use Rattle.deny_run.specs.declared.outcome.RunEnd.TheVariants.{Checked, Listed, Sampled, Recorded, Verified, Billed, Noticed, Told, Shown, Usage, Refused}
use Rattle.deny_run.specs.Check.{Checks}
use Rattle.deny_run.specs.Complete.{AsksCommand}
use Rattle.deny_run.specs.Ends.{Answers, AnswersOf, BillsAs, IsEndBy, ListsAs, NoticesAs, RecordsAs, RunsByTexts, TellsAs, VerifiesAs, as_end, end_of}
use Rattle.deny_run.specs.Given.{RunArguments, options_of}
use Rattle.deny_run.specs.Sample.{Samples}
use Rattle.deny_run.specs.Seen.{RunSeen}
use Rattle.deny_run.specs.Words.{AnswersNone, IsUnshown, lost, mistaken, shown, unshown}
use Rattle.deny_run.proofs.BillLemmas.{bills_made, bills_never}
use Rattle.deny_run.proofs.CheckLemmas.{checks_made, checks_never}
use Rattle.deny_run.proofs.EndLemmas.{IsNoRefusal, billed_apart, checked_apart, listed_apart, noticed_apart, recorded_apart, refused_as, refused_end, sampled_apart, told_apart, verified_apart}
use Rattle.deny_run.proofs.NoticeLemmas.{notices_made, notices_never}
use Rattle.deny_run.proofs.VerifyLemmas.{verifies_made, verifies_never}
use Rattle.deny_run.proofs.WhyLemmas.{tells_made, tells_never}

-- ---- of each command

pub lists_made : (args : ListArgs) (out err : SinkSeen) (own : CommandArguments) (tree : TreeSeen) (value : Result (List CrateRead) Error) → ListsAs args out err own tree value → HasMade tree
lists_made args out err own tree value lists =
    writes_made own tree err out (IsListing (record { command = own; args = args })) (λ listing. listing_text (record { command = own; args = args }) listing.crates) (λ listing. listing.reads) value lists

pub records_made : (out err : SinkSeen) (own : CommandArguments) (tree : TreeSeen) (value : Result (List CrateRead) Error) → RecordsAs out err own tree value → HasMade tree
records_made out err own tree value records = writes_made own tree err out (IsRecorded own) file_in reads_in value records.0

module _ {X : Type 0} (end_by : X → RunEnd) (asked : CommandRequest) (IsDone : SinkSeen → SinkSeen → ListsGiven → CommandArguments → TreeSeen → Result X Error → Type 0) (seen : RunSeen) (answer : Result RunEnd Error)
    (runs : RunsByTexts end_by asked IsDone seen answer) where
  run_made : ((lists : ListsGiven) (own : CommandArguments) (rest : TreeSeen) (value : Result X Error) → IsDone seen.out seen.err lists own rest value → HasMade rest) → HasMade seen.tree
  run_made makes = runs_made asked (IsDone seen.out seen.err) seen.tree seen.err seen.out runs.value (λ lists own rest done. makes lists own rest runs.value done) runs.is_so

  module _ (apart : IsNoRefusal end_by) where
    value_refused : (error : Error) → end_of answer ≡ Refused error → runs.value ≡ Err error
    value_refused error e = refused_as end_by apart runs.value error (sym (ap end_of runs.is) ∙ e)

    run_never : ((lists : ListsGiven) (own : CommandArguments) (rest : TreeSeen) → IsDone seen.out seen.err lists own rest (Err (ConfigRead Absent)) → ⊥) → end_of answer ≡ Refused (ConfigRead Absent) → ⊥
    run_never never e =
        runs_never asked (IsDone seen.out seen.err) seen.tree seen.err seen.out never
        (subst (λ value. RunsBy asked (IsDone seen.out seen.err) seen.tree seen.err seen.out value) (value_refused (ConfigRead Absent) e) runs.is_so)

    -- what ends well is no refusal
    run_ends : (own : RunEnd) (error : Error) → answer ≡ Ok own → own ≡ Refused error → ⊥
    run_ends own error is own_is =
        both_apart (sym is ∙ runs.is ∙ ap (as_end end_by) (value_refused error (ap end_of is ∙ own_is)))
      where
        both_apart : ◌≡◌ {A = Result RunEnd Error} (Ok own) (Err error) → ⊥
        both_apart e = absurd (cc)

  run_unsupported : (what : UnsupportedPart) → asked.command.options.unsupported ≡ Some what → (end_of answer ≡ Refused (NotCarried what)) × IsUntouched seen.tree
  run_unsupported what is =
      let refusal = runs_unsupported asked (IsDone seen.out seen.err) seen.tree seen.err seen.out runs.value what is runs.is_so in
      (ap end_of runs.is ∙ refused_end end_by runs.value (NotCarried what) refusal.0, refusal.1)

-- ---- of a request

module _ (lists : CatalogLists) (match_of : List ℕ → Match) (text_of : List ℕ → Option (List ℕ)) (request : Request) (seen : RunSeen) (answer : Result RunEnd Error) where
  abbrev asked : CommandOptions → CommandRequest
  asked options = command_asked lists match_of text_of request options

  pub request_made : (command : Subcommand) → Answers lists match_of text_of request command seen answer → HasMade seen.tree
  request_made (Check args) runs = run_made Checked _ (λ out err lists. Checks args.show_stats out err) seen answer runs (λ lists own rest value done. checks_made own rest args.show_stats seen.out seen.err value done)
  request_made (Listing args) runs = run_made Listed _ (λ out err lists. ListsAs args out err) seen answer runs (λ lists own rest value done. lists_made args seen.out seen.err own rest value done)
  request_made (Sample size) ends = some_made ends.is_so.0
  request_made Record runs = run_made Recorded _ (λ out err lists. RecordsAs out err) seen answer runs (λ lists own rest value done. records_made seen.out seen.err own rest value done)
  request_made (Verify path) runs = run_made Verified _ (λ out err lists. VerifiesAs path out err) seen answer runs (λ lists own rest value done. verifies_made own path rest seen.err seen.out value done)
  request_made (Why words) runs = run_made Told _ (λ out err lists. TellsAs words out err) seen answer runs (λ lists own rest value done. tells_made (record { command = own; words = words }) rest seen.err seen.out value done)
  request_made Notice runs = run_made Noticed _ NoticesAs seen answer runs (λ lists own rest value done. notices_made lists.texts.text_of own rest seen.err seen.out value done)
  request_made (Bill args) runs = run_made Billed _ (λ out err lists. BillsAs args out err) seen answer runs (λ lists own rest value done. bills_made own args rest seen.err seen.out value done)

  sample_never : (size : ℕ) (value : Result Report Error) → Samples size lists match_of seen.out seen.err value → value ≡ Err (ConfigRead Absent) → ⊥
  sample_never size (Ok report) samples e = absurd (cc)
  sample_never size (Err error) samples e = samples.there (same_error e)
    where
      same_error : ◌≡◌ {A = Result Report Error} (Err error) (Err (ConfigRead Absent)) → error ≡ ConfigRead Absent
      same_error is = cc

  pub request_never : (command : Subcommand) → Answers lists match_of text_of request command seen answer → end_of answer ≡ Refused (ConfigRead Absent) → ⊥
  request_never (Check args) runs = run_never Checked _ (λ out err lists. Checks args.show_stats out err) seen answer runs checked_apart (λ lists own rest done. checks_never own rest args.show_stats seen.out seen.err done)
  request_never (Listing args) runs =
      run_never Listed _ (λ out err lists. ListsAs args out err) seen answer runs listed_apart
      (λ lists own rest done.
      writes_never own rest seen.err seen.out (IsListing (record { command = own; args = args })) (λ listing. listing_text (record { command = own; args = args }) listing.crates) (λ listing. listing.reads) done)
  request_never (Sample size) ends = λ e. sample_never size ends.value ends.is_so.1 (refused_as Sampled sampled_apart ends.value (ConfigRead Absent) (sym (ap end_of ends.is) ∙ e))
  request_never Record runs = run_never Recorded _ (λ out err lists. RecordsAs out err) seen answer runs recorded_apart (λ lists own rest done. writes_never own rest seen.err seen.out (IsRecorded own) file_in reads_in done.0)
  request_never (Verify path) runs = run_never Verified _ (λ out err lists. VerifiesAs path out err) seen answer runs verified_apart (λ lists own rest done. verifies_never own path rest seen.err seen.out done)
  request_never (Why words) runs = run_never Told _ (λ out err lists. TellsAs words out err) seen answer runs told_apart (λ lists own rest done. tells_never (record { command = own; words = words }) rest seen.err seen.out done)
  request_never Notice runs = run_never Noticed _ NoticesAs seen answer runs noticed_apart (λ lists own rest done. notices_never lists.texts.text_of own rest seen.err seen.out done)
  request_never (Bill args) runs = run_never Billed _ (λ out err lists. BillsAs args out err) seen answer runs billed_apart (λ lists own rest done. bills_never own args rest seen.err seen.out done)

  pub request_ends : (command : Subcommand) → Answers lists match_of text_of request command seen answer → (own : RunEnd) (error : Error) → answer ≡ Ok own → own ≡ Refused error → ⊥
  request_ends (Check args) runs = run_ends Checked _ (λ out err lists. Checks args.show_stats out err) seen answer runs checked_apart
  request_ends (Listing args) runs = run_ends Listed _ (λ out err lists. ListsAs args out err) seen answer runs listed_apart
  request_ends (Sample size) ends = value_ends ends.value ends.is
    where
      value_ends : (value : Result Report Error) → answer ≡ as_end Sampled value → (own : RunEnd) (error : Error) → answer ≡ Ok own → own ≡ Refused error → ⊥
      value_ends (Ok report) found own error is own_is = absurd (cc)
      value_ends (Err refusal) found own error is own_is = absurd (cc)
  request_ends Record runs = run_ends Recorded _ (λ out err lists. RecordsAs out err) seen answer runs recorded_apart
  request_ends (Verify path) runs = run_ends Verified _ (λ out err lists. VerifiesAs path out err) seen answer runs verified_apart
  request_ends (Why words) runs = run_ends Told _ (λ out err lists. TellsAs words out err) seen answer runs told_apart
  request_ends Notice runs = run_ends Noticed _ NoticesAs seen answer runs noticed_apart
  request_ends (Bill args) runs = run_ends Billed _ (λ out err lists. BillsAs args out err) seen answer runs billed_apart

  same_options : {one other : CommandOptions} → Some one ≡ Some other → one ≡ other
  same_options e = cc

  pub request_unsupported : (command : Subcommand) → Answers lists match_of text_of request command seen answer → (options : CommandOptions) (what : UnsupportedPart) → options_of request command ≡ Some options
      → options.unsupported ≡ Some what → (end_of answer ≡ Refused (NotCarried what)) × IsUntouched seen.tree
  request_unsupported (Check args) runs options what is none = run_unsupported Checked _ (λ out err lists. Checks args.show_stats out err) seen answer runs what (ap (λ (own : CommandOptions). own.unsupported) (same_options is) ∙ none)
  request_unsupported (Listing args) runs options what is none = run_unsupported Listed _ (λ out err lists. ListsAs args out err) seen answer runs what (ap (λ (own : CommandOptions). own.unsupported) (same_options is) ∙ none)
  request_unsupported (Sample size) ends options what is none = absurd (cc)
  request_unsupported Record runs options what is none = run_unsupported Recorded _ (λ out err lists. RecordsAs out err) seen answer runs what (ap (λ (own : CommandOptions). own.unsupported) (same_options is) ∙ none)
  request_unsupported (Verify path) runs options what is none = run_unsupported Verified _ (λ out err lists. VerifiesAs path out err) seen answer runs what (ap (λ (own : CommandOptions). own.unsupported) (same_options is) ∙ none)
  request_unsupported (Why words) runs options what is none = run_unsupported Told _ (λ out err lists. TellsAs words out err) seen answer runs what (ap (λ (own : CommandOptions). own.unsupported) (same_options is) ∙ none)
  request_unsupported Notice runs options what is none = run_unsupported Noticed _ NoticesAs seen answer runs what (ap (λ (own : CommandOptions). own.unsupported) (same_options is) ∙ none)
  request_unsupported (Bill args) runs options what is none = run_unsupported Billed _ (λ out err lists. BillsAs args out err) seen answer runs what (ap (λ (own : CommandOptions). own.unsupported) (same_options is) ∙ none)

-- ---- of words

shown_apart : Shown ≡ Refused (ConfigRead Absent) → ⊥
shown_apart e = absurd (cc)

usage_apart : Usage ≡ Refused (ConfigRead Absent) → ⊥
usage_apart e = absurd (cc)

memory_apart : Refused Memory ≡ Refused (ConfigRead Absent) → ⊥
memory_apart e = absurd (cc)

none_never : (given : RunArguments) (seen : RunSeen) (answer : Result RunEnd Error) → AnswersNone given seen answer → end_of answer ≡ Refused (ConfigRead Absent) → ⊥
none_never given seen answer (shown may text gained still is) e = absurd (shown_apart (sym (ap end_of is) ∙ e))
none_never given seen answer (unshown may text error cut still is) e = by_error error cut (same_error (sym (ap end_of is) ∙ e))
  where
    same_error : Refused error ≡ Refused (ConfigRead Absent) → error ≡ ConfigRead Absent
    same_error same = cc

    by_error : (own : Error) → IsUnshown seen.out text own → own ≡ ConfigRead Absent → ⊥
    by_error own own_cut own_is = subst (λ one. IsUnshown seen.out text one) own_is own_cut
none_never given seen answer (mistaken may text line silent is) e = absurd (usage_apart (sym (ap end_of is) ∙ e))
none_never given seen answer (lost silent still is) e = absurd (memory_apart (sym (ap end_of is) ∙ e))

none_ends : (given : RunArguments) (seen : RunSeen) (answer : Result RunEnd Error) → AnswersNone given seen answer → (own : RunEnd) (error : Error) → answer ≡ Ok own → own ≡ Refused error → ⊥
none_ends given seen answer (shown may text gained still found) own error is own_is = absurd (cc)
none_ends given seen answer (unshown may text refusal cut still found) own error is own_is = absurd (cc)
none_ends given seen answer (mistaken may text line silent found) own error is own_is = absurd (cc)
none_ends given seen answer (lost silent still found) own error is own_is = absurd (cc)

module _ (given : RunArguments) (seen : RunSeen) (answer : Result RunEnd Error) where
  pub answer_made : (request : Option Request) → AnswersOf given request seen answer → HasMade seen.tree
  answer_made (Some request) answers = request_made given.lists given.match_of given.text_of request seen answer request.command answers.1
  answer_made None answers = some_made answers.0

  pub answer_never : (request : Option Request) → AnswersOf given request seen answer → end_of answer ≡ Refused (ConfigRead Absent) → ⊥
  answer_never (Some request) answers = request_never given.lists given.match_of given.text_of request seen answer request.command answers.1
  answer_never None answers = none_never given seen answer answers.1

  pub answer_ends : (request : Option Request) → AnswersOf given request seen answer → (own : RunEnd) (error : Error) → answer ≡ Ok own → own ≡ Refused error → ⊥
  answer_ends (Some request) answers = request_ends given.lists given.match_of given.text_of request seen answer request.command answers.1
  answer_ends None answers = none_ends given seen answer answers.1

  pub answer_unsupported : (told : Option Request) → AnswersOf given told seen answer → (request : Request) (options : CommandOptions) (what : UnsupportedPart) → told ≡ Some request → AsksCommand given request options
      → options.unsupported ≡ Some what → (end_of answer ≡ Refused (NotCarried what)) × IsUntouched seen.tree
  answer_unsupported told answers request options what is asks none =
      let own = subst (λ one. AnswersOf given one seen answer) is answers in
      request_unsupported given.lists given.match_of given.text_of request seen answer request.command own.1 options what asks.options_are none
