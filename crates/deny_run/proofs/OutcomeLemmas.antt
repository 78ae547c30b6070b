-- What a run promises, from its answer and the line behind that.
use Rattle.std.proofs.Common.{◌≡◌, ◌∙◌, ◌≤◌, refl, sym, ap, subst, ℕ, List, Option, Some, Result, Ok, Err, IfErr, arith}
use Rattle.tree_core.specs.texts.Cause.{ReadCounts}
use Rattle.tree_core.specs.declared.texts.fault.ReadFault.TheVariants.{Absent}
use Rattle.run_request.specs.declared.request.Request.{Request}
use Rattle.run_found.specs.declared.error.Error.{Error}
use Rattle.run_found.specs.declared.error.Error.TheVariants.{ConfigRead}
use Rattle.run_found.specs.Error.{cause_of}
use Rattle.deny_run.specs.declared.answer.Answered.{Answered}
use Rattle.deny_run.specs.declared.outcome.Outcome.{Outcome}
use Rattle.deny_run.specs.declared.outcome.RunEnd.{RunEnd}
use Rattle.deny_run.specs.declared.outcome.RunEnd.TheVariants.{Refused}
use Rattle.deny_run.specs.Ends.{HasLabels, IsAnswered, IsOutcome, end_of}
use Rattle.deny_run.specs.Given.{RunArguments}
use Rattle.deny_run.specs.Run.{IsRun, exit_status, outcome_of}
use Rattle.deny_run.specs.Seen.{EndsLine, RunSeen, sink_from, sink_to}
use Rattle.deny_run.specs.Words.{AnswersWords}
use Rattle.deny_run.proofs.EndLemmas.{labels_end}
use Rattle.deny_run.proofs.HeadlineLemmas.{headline}
use Rattle.deny_run.proofs.LawfulLemmas.{complete}
use Rattle.deny_run.proofs.RunLemmas.{answer_ends, answer_made, answer_never, answer_unsupported}
use Rattle.deny_run.proofs.YesLemmas.{verified_yes}

module _ (given : RunArguments) (seen : RunSeen) (answered : Answered) (written : Option (List ℕ)) (count : ℕ) (early : seen.err.before ≤ count) (late : count ≤ seen.err.after) (out_later : seen.out.before ≤ seen.out.after)
    (is : IsAnswered given (record seen { err = sink_to seen.err written count }) answered) (line : EndsLine answered.answer (sink_from seen.err written count)) where
  abbrev first : RunSeen
  first = record seen { err = sink_to seen.err written count }

  abbrev ended : RunEnd
  ended = end_of answered.answer

  abbrev outcome : Outcome
  outcome = outcome_of answered.request ended

  is_outcome : IsOutcome given seen answered.request ended
  is_outcome = record { answer = answered.answer; is = refl; written = written; count = count; early = early; late = late; answers = is.answers; line = line }

  counts_of : (answer : Result RunEnd Error) → IfErr answer (λ error. ReadCounts seen.tree.count_before seen.tree.count_before seen.tree.count_after (cause_of error))
      → ((own : RunEnd) (one : Error) → answer ≡ Ok own → own ≡ Refused one → ⊥)
      → (error : Error) → end_of answer ≡ Refused error → ReadCounts seen.tree.count_before seen.tree.count_before seen.tree.count_after (cause_of error)
  counts_of (Ok own) counts apart error e = absurd (apart own error refl e)
  counts_of (Err own) counts apart error e = subst (λ one. ReadCounts seen.tree.count_before seen.tree.count_before seen.tree.count_after (cause_of one)) (same e) counts
    where
      same : Refused own ≡ Refused error → own ≡ error
      same both = cc

  pub is_run : IsRun given seen outcome
  is_run = record {
    outcome = is_outcome;
    words = is.words;
    unsupported = λ request options what told asks none. answer_unsupported given first answered.answer answered.request is.answers request options what told asks none;
    policy = λ e. answer_never given first answered.answer answered.request is.answers e;
    later = record { made = answer_made given first answered.answer answered.request is.answers; out = out_later; err = (let both : seen.err.before ≤ seen.err.after = omega (arith, early, late) in both) };
    counts = λ error e. counts_of answered.answer is.counts (answer_ends given first answered.answer answered.request is.answers) error e;
    labels = labels_end answered.answer is.labels;
    status = refl;
    headline = headline given seen outcome is_outcome refl;
    verified = verified_yes given seen outcome is_outcome;
    complete = complete given seen outcome is_outcome;
  }
