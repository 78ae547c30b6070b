-- Words that have a request are taken for nothing else.
use Rattle.std.proofs.Common.{◌≡◌, ◌∙◌, ◌⊎◌, inl, inr, refl, sym, ap, subst, ℕ, true, false, List, [], Option, Some, None, Result, Ok, Err, IfErr, IfOk, OnOk}
use Rattle.tree_core.specs.Faults.{Gained}
use Rattle.tree_core.specs.texts.Cause.{Cause, ReadCounts, no_memory, told, failed_read, refused_write}
use Rattle.run_request.specs.declared.request.Request.{Request}
use Rattle.run_request.specs.Given.{Takes, may_refuse, may_show, word_faults}
use Rattle.run_request.specs.Request.{gate_words}
use Rattle.run_found.specs.declared.error.Error.{Error}
use Rattle.run_found.specs.declared.error.Error.TheVariants.{Memory}
use Rattle.run_found.specs.Error.{cause_of}
use Rattle.deny_run.specs.declared.outcome.RunEnd.{RunEnd}
use Rattle.deny_run.specs.declared.outcome.RunEnd.TheVariants.{Shown, Usage, Refused}
use Rattle.deny_run.specs.Ends.{HasLabels, end_of}
use Rattle.deny_run.specs.Given.{RunArguments}
use Rattle.deny_run.specs.Seen.{IsStill, RunSeen}
use Rattle.deny_run.specs.Words.{AnswersNone, AnswersWords, EndsHelp, HasRequest, IsShownBy, IsUnshown, MayRefuse, MayShow, lost, mistaken, shown, unshown}

-- memory was wanting
abbrev pub EndsLost : Result RunEnd Error → Type 0
EndsLost answer = answer ≡ Err Memory

module _ (given : RunArguments) where
  some_same : (one other : Request) → ◌≡◌ {A = Option Request} (Some one) (Some other) → one ≡ other
  some_same one other e = cc

  -- words have one request
  pub same_request : (one other : Request) → HasRequest given one → HasRequest given other → one ≡ other
  same_request one other first second = some_same one other (sym first.asks ∙ second.asks)

  -- those that are taken call for no help and are no mistake
  pub none_shown : (request : Request) → HasRequest given request → MayShow given → ⊥
  none_shown request has shows = absurd (apart (subst (λ kinds. may_show kinds ≡ true) has.takes shows))
    where
      apart : may_show [] ≡ true → ⊥
      apart e = absurd (cc)

  pub none_refused : (request : Request) → HasRequest given request → MayRefuse given → ⊥
  none_refused request has (inl refuses) = absurd (apart (subst (λ kinds. may_refuse kinds ≡ true) has.takes refuses))
    where
      apart : may_refuse [] ≡ true → ⊥
      apart e = absurd (cc)
  none_refused request has (inr own) = absurd (apart (sym own.1 ∙ has.asks))
    where
      apart : ◌≡◌ {A = Option Request} None (Some request) → ⊥
      apart e = absurd (cc)

  -- so words with a request are not answered as words without one
  pub none_answered : (seen : RunSeen) (answer : Result RunEnd Error) (request : Request) → HasRequest given request → AnswersNone given seen answer → EndsLost answer
  none_answered seen answer request has (shown may text gained still is) = absurd (none_shown request has may)
  none_answered seen answer request has (unshown may text error cut still is) = absurd (none_shown request has may)
  none_answered seen answer request has (mistaken may text line silent is) = absurd (none_refused request has may)
  none_answered seen answer request has (lost silent still is) = is

-- ---- help and the version

no_both : true ≡ false → ⊥
no_both e = absurd (cc)

-- want of memory and a refused write come of no read
shown_counts : (begun before after : ℕ) (cause : Cause) → IsShownBy cause → ReadCounts begun before after cause
shown_counts begun before after no_memory is = tt
shown_counts begun before after told is = absurd is
shown_counts begun before after (failed_read first last) is = absurd is
shown_counts begun before after (refused_write first last) is = tt

-- the text was shown, if all of it was written
abbrev IsShowing : Option (List ℕ) → Option (List ℕ) → List ℕ → Result RunEnd Error → Type 0
IsShowing old new text answer = OnOk answer ((answer ≡ Ok Shown) × Gained old new text)

is_shown : (old new : Option (List ℕ)) (text : List ℕ) (ended : RunEnd) → IsShowing old new text (Ok ended) → ended ≡ Shown
is_shown old new text ended is = same is.0
  where
    same : ◌≡◌ {A = Result RunEnd Error} (Ok ended) (Ok Shown) → ended ≡ Shown
    same e = cc

module _ (given : RunArguments) (seen : RunSeen) (text : List ℕ) (may : MayShow given) where
  pub answers_shown : (answer : Result RunEnd Error) → IsStill seen.err → IsShowing seen.out.old seen.out.new text answer → IfErr answer (IsUnshown seen.out text) → AnswersNone given seen answer
  answers_shown (Ok ended) still ok cut = shown may text ok.1 still ok.0
  answers_shown (Err error) still ok cut = unshown may text error cut still refl

  ends_help : (answer : Result RunEnd Error) → IsShowing seen.out.old seen.out.new text answer → IfErr answer (λ error. IsShownBy (cause_of error)) → EndsHelp (end_of answer)
  ends_help (Ok ended) ok cause = inl (is_shown seen.out.old seen.out.new text ended ok)
  ends_help (Err error) ok cause = inr (error, refl, cause)

  pub words_shown : (answer : Result RunEnd Error) → IsShowing seen.out.old seen.out.new text answer → IfErr answer (λ error. IsShownBy (cause_of error)) → AnswersWords given None (end_of answer)
  words_shown answer ok cause = record {
    request = λ request has. absurd (none_shown given request has may);
    help = λ shows refuses. (refl, ends_help answer ok cause);
    mistake = λ hides own. absurd (no_both (sym may ∙ hides));
  }

  pub labels_shown : (answer : Result RunEnd Error) → IsShowing seen.out.old seen.out.new text answer → IfOk answer HasLabels
  labels_shown (Ok ended) ok = subst HasLabels (sym (is_shown seen.out.old seen.out.new text ended ok)) tt
  labels_shown (Err error) ok = tt

  pub counts_shown : (begun before after : ℕ) (answer : Result RunEnd Error) → IfErr answer (λ error. IsShownBy (cause_of error)) → IfErr answer (λ error. ReadCounts begun before after (cause_of error))
  counts_shown begun before after (Ok ended) cause = tt
  counts_shown begun before after (Err error) cause = shown_counts begun before after (cause_of error) cause

-- ---- a mistake

pub words_mistaken : (given : RunArguments) → MayRefuse given → AnswersWords given None Usage
words_mistaken given may = record {
  request = λ request has. absurd (none_refused given request has may);
  help = λ shows refuses. absurd (no_help may shows refuses);
  mistake = λ hides own. inl refl;
}
  where
    nothing_shown : may_show [] ≡ true → ⊥
    nothing_shown e = absurd (cc)

    no_help : MayRefuse given → MayShow given → may_refuse (word_faults (gate_words given.words)) ≡ false → ⊥
    no_help (inl refuses) shows none = no_both (sym refuses ∙ none)
    no_help (inr own) shows none = nothing_shown (subst (λ kinds. may_show kinds ≡ true) own.0 shows)
