-- Lawful input without a fault ends as its command ends, or for want of memory.
use Rattle.std.proofs.Common.{◌≡◌, ◌∙◌, ◌⊎◌, inr, ◌≤◌, refl, sym, ap, subst, ℕ, List, Option, Some, None, Result, Ok, Err}
use Rattle.std.specs.Prelude.{⊤}
use Rattle.tree_core.specs.Call.{Call}
use Rattle.tree_core.specs.Content.{Content}
use Rattle.tree_core.specs.Faults.{Rose}
use Rattle.spdx_terms.specs.catalog.Catalog.{CatalogLists}
use Rattle.spdx_terms.specs.declared.catalog.identifier.Match.{Match}
use Rattle.run_request.specs.declared.list.ListArgs.{ListArgs}
use Rattle.run_request.specs.declared.request.Request.{Request}
use Rattle.run_request.specs.declared.request.Subcommand.{Subcommand}
use Rattle.run_request.specs.declared.request.Subcommand.TheVariants.{Check, List as Listing, Sample, Record, Verify, Bill, Notice, Why}
use Rattle.run_found.specs.declared.error.Error.{Error}
use Rattle.run_found.specs.declared.error.Error.TheVariants.{Memory}
use Rattle.run_found.specs.declared.reads.CrateRead.{CrateRead}
use Rattle.run_found.specs.Error.{EndsLawful as EndsCommand, MayEndLawful, cause_of}
use Rattle.run_found.specs.Hearing.{HasMade, TreeSeen}
use Rattle.run_found.specs.Written.{SinkSeen}
use Rattle.run_found.specs.own_names.Given.{ListsGiven}
use Rattle.run_command.specs.Given.{CommandArguments, CommandRequest, CommandOptions, command_asked, command_by}
use Rattle.run_command.specs.Lawful.{CommandHearing, IsLawfulOver, IsLawfulRun}
use Rattle.run_command.specs.Stops.{PolicyAndCrates}
use Rattle.run_command.proofs.LawfulLemmas.{NoRefusal}
use Rattle.run_command.proofs.PreludeLemmas.{lawful_over, lawful_run}
use Rattle.run_command.proofs.WrittenLemmas.{writes_lawful}
use Rattle.run_check.specs.declared.report.Report.{Report}
use Rattle.run_list.specs.Listed.{listing_text}
use Rattle.run_list.specs.Listing.{IsListing}
use Rattle.run_record.specs.Recorded.{IsRecorded, file_in, reads_in}
use Rattle.deny_run.specs.declared.outcome.Outcome.{Outcome}
use Rattle.deny_run.specs.declared.outcome.RunEnd.{RunEnd}
use Rattle.deny_run.specs.declared.outcome.RunEnd.TheVariants.{Checked, Listed, Recorded, Verified, Billed, Noticed, Told}
use Rattle.deny_run.specs.Check.{Checks}
use Rattle.deny_run.specs.Complete.{AsksCommand, EndsAs, EndsLawful, IsComplete, IsWanting, MayEndBill, MayEndNotice, MayEndVerify, MayEndWhy}
use Rattle.deny_run.specs.Ends.{Answers, AnswersOf, BillsAs, Ends, IsOutcome, ListsAs, NoticesAs, RecordsAs, RunsByTexts, TellsAs, VerifiesAs, end_of}
use Rattle.deny_run.specs.Given.{RunArguments, asked_of, options_of}
use Rattle.deny_run.specs.Seen.{IsWithoutFault, RunSeen, sink_to}
use Rattle.deny_run.specs.Words.{HasRequest}
use Rattle.deny_run.proofs.BillLemmas.{bill_wanting, bills_lawful, bills_made}
use Rattle.deny_run.proofs.CheckLemmas.{checks_lawful, checks_made, rose_less}
use Rattle.deny_run.proofs.EndLemmas.{EndsBy, ends_as}
use Rattle.deny_run.proofs.NoticeLemmas.{notice_wanting, notices_lawful, notices_made}
use Rattle.deny_run.proofs.RunLemmas.{lists_made, records_made}
use Rattle.deny_run.proofs.VerifyLemmas.{verifies_lawful, verifies_made, verify_wanting}
use Rattle.deny_run.proofs.WhyLemmas.{tells_lawful, tells_made, why_wanting}
use Rattle.deny_run.proofs.WordLemmas.{none_answered, same_request}

-- what is lawful, by what was read or by a content
pub data IsLawfulOn (asked : CommandRequest) (tree : TreeSeen) : Type 0 where
  by_read : (hearing : CommandHearing) (had : ListsGiven) (behind : List Call) (input : PolicyAndCrates) → IsLawfulRun asked tree hearing had behind input → IsLawfulOn asked tree
  by_content : (content : Content) → tree.told ≡ Some content → (Rose tree.count_before tree.count_after → ⊥) → (hearing : CommandHearing) (had : ListsGiven) (input : PolicyAndCrates)
      → IsLawfulOver asked content tree.count_before hearing had input → IsLawfulOn asked tree

wanting_end : {X : Type 0} (answer : Result X Error) → EndsCommand answer → EndsBy IsWanting answer
wanting_end {X} (Ok value) ends = tt
wanting_end {X} (Err error) ends = ends

-- ---- a command

module _ {X : Type 0} (end_by : X → RunEnd) (asked : CommandRequest) (IsDone : SinkSeen → SinkSeen → ListsGiven → CommandArguments → TreeSeen → Result X Error → Type 0) (seen : RunSeen) (answer : Result RunEnd Error)
    (runs : RunsByTexts end_by asked IsDone seen answer) (MayRefuse : Error → Type 0) (wanting : (error : Error) → MayEndLawful (cause_of error) → MayRefuse error)
    (makes : (lists : ListsGiven) (own : CommandArguments) (rest : TreeSeen) → IsDone seen.out seen.err lists own rest runs.value → HasMade rest)
    (done : (lists : ListsGiven) (own : CommandArguments) (rest : TreeSeen) → NoRefusal own rest → IsDone seen.out seen.err lists own rest runs.value → EndsBy MayRefuse runs.value) where
  value_lawful : IsLawfulOn asked seen.tree → EndsBy MayRefuse runs.value
  value_lawful (by_read hearing had behind input lawful) =
      lawful_run asked (IsDone seen.out seen.err) seen.tree seen.err seen.out runs.value makes (EndsBy MayRefuse) wanting had (λ rest apart is_done. done had (command_by asked.command had) rest apart is_done) hearing behind input lawful runs.is_so
  value_lawful (by_content content told still hearing had input lawful) =
      lawful_over asked (IsDone seen.out seen.err) seen.tree seen.err seen.out runs.value makes (EndsBy MayRefuse) wanting had (λ rest apart is_done. done had (command_by asked.command had) rest apart is_done) content told still hearing input lawful
      runs.is_so

  run_lawful : IsLawfulOn asked seen.tree → EndsAs end_by MayRefuse (end_of answer)
  run_lawful lawful = subst (λ own. EndsAs end_by MayRefuse (end_of own)) (sym runs.is) (ends_as end_by MayRefuse runs.value (value_lawful lawful))

-- ---- a request

module _ (lists : CatalogLists) (match_of : List ℕ → Match) (text_of : List ℕ → Option (List ℕ)) (request : Request) (seen : RunSeen) (answer : Result RunEnd Error) (out_quiet : Rose seen.out.before seen.out.after → ⊥) (err_quiet : Rose seen.err.before seen.err.after → ⊥) where
  same_options : {one other : CommandOptions} → Some one ≡ Some other → one ≡ other
  same_options e = cc

  -- the lawful input is that of this command
  at_options : (own options : CommandOptions) → Some own ≡ Some options → IsLawfulOn (command_asked lists match_of text_of request options) seen.tree → IsLawfulOn (command_asked lists match_of text_of request own) seen.tree
  at_options own options is lawful = subst (λ one. IsLawfulOn (command_asked lists match_of text_of request one) seen.tree) (sym (same_options is)) lawful

  request_lawful : (command : Subcommand) → Answers lists match_of text_of request command seen answer → (options : CommandOptions) → options_of request command ≡ Some options
      → IsLawfulOn (command_asked lists match_of text_of request options) seen.tree → EndsLawful command (end_of answer)
  request_lawful (Check args) runs options is lawful =
      run_lawful Checked _ (λ out err lists. Checks args.show_stats out err) seen answer runs IsWanting (λ error may. may) (λ lists own rest is_done. checks_made own rest args.show_stats seen.out seen.err runs.value is_done)
      (λ lists own rest apart is_done. wanting_end runs.value (checks_lawful own rest args.show_stats seen.out seen.err apart out_quiet err_quiet runs.value is_done)) (at_options _ options is lawful)
  request_lawful (Listing args) runs options is lawful =
      run_lawful Listed _ (λ out err lists. ListsAs args out err) seen answer runs IsWanting (λ error may. may) (λ lists own rest is_done. lists_made args seen.out seen.err own rest runs.value is_done)
      (λ lists own rest apart is_done. wanting_end runs.value
      (writes_lawful own rest seen.err seen.out (IsListing (record { command = own; args = args })) (λ listing. listing_text (record { command = own; args = args }) listing.crates) (λ listing. listing.reads)
      apart err_quiet out_quiet runs.value is_done)) (at_options _ options is lawful)
  request_lawful (Sample size) ends options is lawful = tt
  request_lawful Record runs options is lawful =
      run_lawful Recorded _ (λ out err lists. RecordsAs out err) seen answer runs IsWanting (λ error may. may) (λ lists own rest is_done. records_made seen.out seen.err own rest runs.value is_done)
      (λ lists own rest apart is_done. wanting_end runs.value (writes_lawful own rest seen.err seen.out (IsRecorded own) file_in reads_in apart err_quiet out_quiet runs.value is_done.0)) (at_options _ options is lawful)
  request_lawful (Verify path) runs options is lawful =
      run_lawful Verified _ (λ out err lists. VerifiesAs path out err) seen answer runs MayEndVerify verify_wanting (λ lists own rest is_done. verifies_made own path rest seen.err seen.out runs.value is_done)
      (λ lists own rest apart is_done. verifies_lawful own path rest seen.err seen.out apart out_quiet err_quiet runs.value is_done) (at_options _ options is lawful)
  request_lawful (Bill args) runs options is lawful =
      run_lawful Billed _ (λ out err lists. BillsAs args out err) seen answer runs MayEndBill bill_wanting (λ lists own rest is_done. bills_made own args rest seen.err seen.out runs.value is_done)
      (λ lists own rest apart is_done. bills_lawful own args rest seen.err seen.out apart out_quiet err_quiet runs.value is_done) (at_options _ options is lawful)
  request_lawful Notice runs options is lawful =
      run_lawful Noticed _ NoticesAs seen answer runs MayEndNotice notice_wanting (λ lists own rest is_done. notices_made lists.texts.text_of own rest seen.err seen.out runs.value is_done)
      (λ lists own rest apart is_done. notices_lawful lists.texts.text_of own rest seen.err seen.out apart out_quiet err_quiet runs.value is_done) (at_options _ options is lawful)
  request_lawful (Why words) runs options is lawful =
      run_lawful Told _ (λ out err lists. TellsAs words out err) seen answer runs MayEndWhy why_wanting (λ lists own rest is_done. tells_made (record { command = own; words = words }) rest seen.err seen.out runs.value is_done)
      (λ lists own rest apart is_done. tells_lawful (record { command = own; words = words }) rest seen.err seen.out apart out_quiet err_quiet runs.value is_done) (at_options _ options is lawful)

-- ---- a run

-- where memory was wanting before the request was found
lost_as : {X : Type 0} (end_by : X → RunEnd) (MayRefuse : Error → Type 0) → MayRefuse Memory → (answer : Result RunEnd Error) → answer ≡ Err Memory → EndsAs end_by MayRefuse (end_of answer)
lost_as {X} end_by MayRefuse may answer is = inr (Memory, ap end_of is, may)

lost_lawful : (command : Subcommand) (answer : Result RunEnd Error) → answer ≡ Err Memory → EndsLawful command (end_of answer)
lost_lawful (Check args) answer is = lost_as Checked IsWanting tt answer is
lost_lawful (Listing args) answer is = lost_as Listed IsWanting tt answer is
lost_lawful (Sample size) answer is = tt
lost_lawful Record answer is = lost_as Recorded IsWanting tt answer is
lost_lawful (Verify path) answer is = lost_as Verified MayEndVerify tt answer is
lost_lawful (Bill args) answer is = lost_as Billed MayEndBill tt answer is
lost_lawful Notice answer is = lost_as Noticed MayEndNotice tt answer is
lost_lawful (Why words) answer is = lost_as Told MayEndWhy tt answer is

module _ (given : RunArguments) (seen : RunSeen) (outcome : Outcome) (is : IsOutcome given seen outcome.request outcome.ended) where
  abbrev first : RunSeen
  first = record seen { err = sink_to seen.err is.written is.count }

  answer_lawful : (told : Option Request) → AnswersOf given told first is.answer → (request : Request) (options : CommandOptions) → AsksCommand given request options → IsWithoutFault seen
      → IsLawfulOn (asked_of given request options) seen.tree → EndsLawful request.command (end_of is.answer)
  answer_lawful None answers request options asks quiet lawful = lost_lawful request.command is.answer (none_answered given first is.answer request asks.of_words answers.1)
  answer_lawful (Some own) answers request options asks quiet lawful =
      let same = same_request given own request answers.0 asks.of_words in
      request_lawful given.lists given.match_of given.text_of request first is.answer quiet.out (λ rose. quiet.err (rose_less seen.err.before is.count seen.err.after is.late rose)) request.command
      (subst (λ one. Answers given.lists given.match_of given.text_of one one.command first is.answer) same answers.1) options asks.options_are lawful

  lawful_at : (request : Request) (options : CommandOptions) → AsksCommand given request options → IsWithoutFault seen → IsLawfulOn (asked_of given request options) seen.tree → EndsLawful request.command outcome.ended
  lawful_at request options asks quiet lawful = subst (EndsLawful request.command) (sym is.is) (answer_lawful outcome.request is.answers request options asks quiet lawful)

  pub complete : IsComplete given seen outcome
  complete = record {
    read = λ request options hearing had behind asked asks lawful quiet. lawful_at request options asks quiet (by_read hearing had behind asked lawful);
    told = λ content told request options hearing had asked asks lawful quiet. lawful_at request options asks quiet (by_content content told quiet.tree hearing had asked lawful);
  }
