-- The headline, from what the run answers and from the headline of the check.
use Rattle.std.proofs.Common.{◌≡◌, ◌∙◌, refl, sym, ap, subst, ℕ, Bool, true, false, All, List, Option, Some, None, Result, Ok, Err}
use Rattle.std.specs.Prelude.{if◌then◌else◌}
use Rattle.tree_core.specs.Call.{Call}
use Rattle.tree_core.specs.Content.{Content}
use Rattle.diag_stats.specs.ExitCode.{has_errors}
use Rattle.run_request.specs.declared.check.CheckArgs.{CheckArgs}
use Rattle.run_request.specs.declared.request.Request.{Request}
use Rattle.run_request.specs.declared.request.Subcommand.{Subcommand}
use Rattle.run_request.specs.declared.request.Subcommand.TheVariants.{Check, List as Listing, Sample, Record, Verify, Bill, Notice, Why}
use Rattle.run_overrides.specs.Levels.{HasNoOverrides}
use Rattle.run_found.specs.declared.error.Error.{Error}
use Rattle.run_found.specs.Hearing.{RequestHearing, TreeSeen}
use Rattle.run_found.specs.Written.{SinkSeen}
use Rattle.run_found.specs.own_names.Given.{ListsGiven}
use Rattle.run_command.specs.Given.{CommandArguments, CommandRequest, command_by}
use Rattle.run_command.specs.Lawful.{CommandHearing, IsRunHeard}
use Rattle.run_command.specs.Prelude.{ComesTo, Runs, came, from_there, stopped, up_to}
use Rattle.run_command.proofs.PreludeLemmas.{comes_by, run_heard}
use Rattle.run_check.specs.declared.report.Report.{Report}
use Rattle.run_check.specs.Given.{check_options}
use Rattle.run_check.specs.Headline.{ZeroMeansNoneRejected, is_against}
use Rattle.run_check.specs.Report.{TellsVerdicts}
use Rattle.run_check.specs.Script.{WritesCheck}
use Rattle.run_check.proofs.HeadlineLemmas.{headline_read}
use Rattle.deny_run.specs.declared.outcome.Outcome.{Outcome}
use Rattle.deny_run.specs.declared.outcome.RunEnd.{RunEnd}
use Rattle.deny_run.specs.declared.outcome.RunEnd.TheVariants.{Checked, Listed, Sampled, Recorded, Verified, Billed, Noticed, Told, Shown, Usage}
use Rattle.deny_run.specs.Check.{Checks, refused, reported}
use Rattle.deny_run.specs.Ends.{Answers, AnswersOf, IsOutcome, end_of}
use Rattle.deny_run.specs.Given.{RunArguments, asked_of}
use Rattle.deny_run.specs.Headline.{AsksCheck, HasVerdictsIn, HasVerdictsRead, Headline}
use Rattle.deny_run.specs.Run.{exit_status}
use Rattle.deny_run.specs.Seen.{RunSeen, sink_to}
use Rattle.deny_run.specs.Words.{AnswersNone, lost, mistaken, shown, unshown}
use Rattle.deny_run.proofs.EndLemmas.{billed_other, checked_as, listed_other, noticed_other, recorded_other, sampled_other, told_other, unchecked, verified_other}

-- ---- a check

-- what is reported of a check that has its report: what was read, and the verdicts
pub record IsReported (asked : CommandRequest) (tree : TreeSeen) (report : Report) : Type 0 where
  pub hearing : CommandHearing
  pub had : ListsGiven
  pub heard : IsRunHeard asked tree hearing had
  pub tells : TellsVerdicts (command_by asked.command had) hearing.found report
  pub against : ZeroMeansNoneRejected (command_by asked.command had) (Ok report)

ok_apart : {report : Report} {error : Error} → ◌≡◌ {A = Result Report Error} (Ok report) (Err error) → ⊥
ok_apart e = absurd (cc)

module _ (show : Bool) (asked : CommandRequest) (tree : TreeSeen) (out err : SinkSeen) (report : Report) where
  by_writes : (told : Option Content) (count : ℕ) (calls : List Call) (lists : ListsGiven) (comes : ComesTo asked (up_to tree told count calls) (Ok lists)) (sink : SinkSeen) → WritesCheck (command_by asked.command lists) (from_there tree told count calls) sink (Ok report) → IsReported asked tree report
  by_writes told count calls lists comes sink writes =
      let own = command_by asked.command lists in
      let rest = from_there tree told count calls in
      let head = headline_read own rest sink (Ok report) writes in
      let verdicts = head.verdicts report refl in
      record {
        hearing = record { lists = (comes_by asked (up_to tree told count calls) lists comes).hearing; found = verdicts.hearing };
        had = lists;
        heard = run_heard asked tree told count calls lists comes verdicts.hearing verdicts.heard;
        tells = verdicts.tells;
        against = head.status;
      }

  is_reported : Runs asked (Checks show out err) tree err out (Ok report) → IsReported asked tree report
  is_reported (stopped error comes is silent silent_out) = absurd (ok_apart is)
  is_reported (came told count calls lists comes (refused error writes silent is)) = absurd (ok_apart is)
  is_reported (came told count calls lists comes (reported own written later early late writes summary)) =
      by_writes told count calls lists comes (sink_to err written later) (subst (λ one. WritesCheck (command_by asked.command lists) (from_there tree told count calls) (sink_to err written later) (Ok one)) (sym summary.0) writes)

-- ---- a run

-- a report that is an end is that of a check of the words' request
pub record IsCheckOf (given : RunArguments) (outcome : Outcome) (tree : TreeSeen) (report : Report) : Type 0 where
  pub args : CheckArgs
  pub asked : CommandRequest
  pub asks : AsksCheck given outcome args asked
  pub is : IsReported asked tree report

module _ (given : RunArguments) (seen : RunSeen) (outcome : Outcome) (is : IsOutcome given seen outcome.request outcome.ended) where
  abbrev first : RunSeen
  first = record seen { err = sink_to seen.err is.written is.count }

  none_checked : AnswersNone given first is.answer → (report : Report) → end_of is.answer ≡ Checked report → ⊥
  none_checked (shown may text gained still own) report e = shown_apart (sym (ap end_of own) ∙ e)
    where
      shown_apart : Shown ≡ Checked report → ⊥
      shown_apart same = absurd (cc)
  none_checked (unshown may text error cut still own) report e = refused_apart (sym (ap end_of own) ∙ e)
    where
      refused_apart : end_of (Err error) ≡ Checked report → ⊥
      refused_apart same = absurd (cc)
  none_checked (mistaken may text line silent own) report e = usage_apart (sym (ap end_of own) ∙ e)
    where
      usage_apart : Usage ≡ Checked report → ⊥
      usage_apart same = absurd (cc)
  none_checked (lost silent still own) report e = absurd (cc)

  by_answer : (told : Option Request) → outcome.request ≡ told → AnswersOf given told first is.answer → (report : Report) → end_of is.answer ≡ Checked report → IsCheckOf given outcome seen.tree report
  by_answer None told_is answers report e = absurd (none_checked answers.1 report e)
  by_answer (Some request) told_is answers report e = by_command request.command refl answers.1
    where
      by_command : (command : Subcommand) → request.command ≡ command → Answers given.lists given.match_of given.text_of request command first is.answer → IsCheckOf given outcome seen.tree report
      by_command (Check args) command_is runs =
          let asked = asked_of given request (check_options request.log_ctx args request.krate_ctx) in
          let value_is = checked_as runs.value report (sym (ap end_of runs.is) ∙ e) in
          record {
            args = args;
            asked = asked;
            asks = record { request = request; of_words = answers.0; told = told_is; command = command_is; is = refl };
            is = is_reported args.show_stats asked seen.tree first.out first.err report (subst (λ value. Runs asked (Checks args.show_stats first.out first.err) seen.tree first.err first.out value) value_is runs.is_so);
          }
      by_command (Listing args) command_is runs = absurd (unchecked Listed listed_other runs.value report (sym (ap end_of runs.is) ∙ e))
      by_command (Sample size) command_is ends = absurd (unchecked Sampled sampled_other ends.value report (sym (ap end_of ends.is) ∙ e))
      by_command Record command_is runs = absurd (unchecked Recorded recorded_other runs.value report (sym (ap end_of runs.is) ∙ e))
      by_command (Verify path) command_is runs = absurd (unchecked Verified verified_other runs.value report (sym (ap end_of runs.is) ∙ e))
      by_command (Bill args) command_is runs = absurd (unchecked Billed billed_other runs.value report (sym (ap end_of runs.is) ∙ e))
      by_command Notice command_is runs = absurd (unchecked Noticed noticed_other runs.value report (sym (ap end_of runs.is) ∙ e))
      by_command (Why words) command_is runs = absurd (unchecked Told told_other runs.value report (sym (ap end_of runs.is) ∙ e))

  check_of : (report : Report) → outcome.ended ≡ Checked report → IsCheckOf given outcome seen.tree report
  check_of report e = by_answer outcome.request refl is.answers report (sym is.is ∙ e)

  -- ---- the status

  no_error : (errors : Bool) → ◌≡◌ {A = ℕ} (if errors then 4 else 0) 0 → errors ≡ false
  no_error true e = absurd (cc)
  no_error false e = refl

  same_args : {one other : CheckArgs} → Check one ≡ Check other → one ≡ other
  same_args e = cc

  same_told : {one other : Request} → ◌≡◌ {A = Option Request} (Some one) (Some other) → one ≡ other
  same_told e = cc

  args_are : (report : Report) (own : IsCheckOf given outcome seen.tree report) (args : CheckArgs) (asked : CommandRequest) → AsksCheck given outcome args asked → own.args ≡ args
  args_are report own args asked asks =
      same_args (sym own.asks.command ∙ ap (λ (one : Request). one.command) (same_told (sym own.asks.told ∙ asks.told)) ∙ asks.command)

  module _ (status_is : outcome.status ≡ exit_status outcome.ended) where
    tells_against : (report : Report) (args : CheckArgs) (asked : CommandRequest) → outcome.ended ≡ Checked report → AsksCheck given outcome args asked → HasNoOverrides args.lint_levels → outcome.status ≡ 0
        → All (λ crate. is_against crate.verdict ≡ false) report.crates
    tells_against report args asked ended asks none zero =
        let own = check_of report ended in
        own.is.against report refl
        (subst (λ (one : CommandRequest). HasNoOverrides one.command.options.levels) (sym own.asks.is) (subst (λ (one : CheckArgs). HasNoOverrides one.lint_levels) (sym (args_are report own args asked asks)) none))
        (no_error (has_errors report.stats) (sym (ap exit_status ended) ∙ sym status_is ∙ zero))

    pub headline : Headline given seen outcome
    headline = record {
      read = λ report e.
          let own = check_of report e in
          record { args = own.args; asked = own.asked; asks = own.asks; hearing = own.is.hearing; had = own.is.had; heard = own.is.heard; tells = own.is.tells };
      told = λ content told report e.
          let own = check_of report e in
          record {
            args = own.args;
            asked = own.asked;
            asks = own.asks;
            hearing = own.is.hearing;
            had = own.is.had;
            begun = own.is.heard.begun;
            comes = own.is.heard.comes;
            counts = own.is.heard.made.counts;
            says = own.is.heard.made.says content told;
            tells = own.is.tells;
          };
      status = tells_against;
    }
