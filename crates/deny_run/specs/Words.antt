-- What a run over words comes to that have no request: help and the version are shown, mistakes are reported, and no
-- call is made.
use Rattle.std.specs.Prelude.{◌≡◌, ◌⊎◌, ℕ, true, false, List, Option, Some, None, Result, Ok, Err}
use Rattle.tree_core.specs.Faults.{Gained}
use Rattle.tree_core.specs.texts.Cause.{Cause, no_memory, refused_write}
use Rattle.run_request.specs.declared.request.Request.{Request}
use Rattle.run_request.specs.Given.{Takes, may_refuse, may_show, word_faults}
use Rattle.run_request.specs.Request.{gate_words, request_in}
use Rattle.run_found.specs.declared.error.Error.{Error}
use Rattle.run_found.specs.declared.error.Error.TheVariants.{Memory, WriteFault}
use Rattle.run_found.specs.Error.{cause_of}
use Rattle.run_found.specs.Written.{IsRefusedIn, IsSilent, SinkSeen}
use Rattle.deny_run.specs.declared.outcome.RunEnd.{RunEnd}
use Rattle.deny_run.specs.declared.outcome.RunEnd.TheVariants.{Shown, Usage, Refused}
use Rattle.deny_run.specs.Given.{RunArguments}
use Rattle.deny_run.specs.Seen.{HasLine, IsStill, RunSeen}

-- the words are taken, and ask for this
pub record HasRequest (given : RunArguments) (request : Request) : Type 0 where
  pub takes : Takes (gate_words given.words)
  pub asks : request_in (gate_words given.words) given.cwd ≡ Some request

-- help or the version is among what the words may be taken for
abbrev pub MayShow : RunArguments → Type 0
MayShow given = may_show (word_faults (gate_words given.words)) ≡ true

-- a mistake is among it, or the words are taken and ask for nothing
abbrev pub MayRefuse : RunArguments → Type 0
MayRefuse given =
    (may_refuse (word_faults (gate_words given.words)) ≡ true)
    ⊎ (Takes (gate_words given.words) × (request_in (gate_words given.words) given.cwd ≡ None))

-- the write of a text was refused, of which a prefix was written
abbrev pub IsUnshown : SinkSeen → List ℕ → Error → Type 0
IsUnshown sink text (WriteFault before after) = IsRefusedIn sink text before after
IsUnshown sink text _ = ⊥

-- The answer to words that have no request, of which the line of a refusal is not written yet: some text was shown on
-- `out`; or `out` refused a write of it; or some text was reported on `err`, or a prefix of it where `err` refused,
-- which changes nothing in the answer; or memory was wanting before anything was written.
pub data AnswersNone (given : RunArguments) (seen : RunSeen) (answer : Result RunEnd Error) : Type 0 where
  shown : MayShow given → (text : List ℕ) → Gained seen.out.old seen.out.new text → IsStill seen.err → answer ≡ Ok Shown
      → AnswersNone given seen answer
  unshown : MayShow given → (text : List ℕ) (error : Error) → IsUnshown seen.out text error → IsStill seen.err
      → answer ≡ Err error → AnswersNone given seen answer
  mistaken : MayRefuse given → (text : List ℕ) → HasLine seen.err text → IsSilent seen.out → answer ≡ Ok Usage
      → AnswersNone given seen answer
  lost : IsSilent seen.out → IsStill seen.err → answer ≡ Err Memory → AnswersNone given seen answer

-- ---- completeness: but for want of memory, and for a refused write of help

-- words that are taken and ask for something have it reported
abbrev pub AnswersRequest : RunArguments → Option Request → RunEnd → Type 0
AnswersRequest given told ended =
    (request : Request) → HasRequest given request → (told ≡ Some request) ⊎ (ended ≡ Refused Memory)

abbrev pub IsShownBy : Cause → Type 0
IsShownBy no_memory = Unit {0}
IsShownBy (refused_write before after) = Unit {0}
IsShownBy _ = ⊥

-- help was shown, or memory was wanting, or the write was refused
abbrev pub EndsHelp : RunEnd → Type 0
EndsHelp ended = (ended ≡ Shown) ⊎ ((error : Error) × (ended ≡ Refused error) × IsShownBy (cause_of error))

-- words that can be taken for nothing but a call for help or the version have it shown
abbrev pub AnswersHelp : RunArguments → Option Request → RunEnd → Type 0
AnswersHelp given told ended =
    may_show (word_faults (gate_words given.words)) ≡ true → may_refuse (word_faults (gate_words given.words)) ≡ false
    → (told ≡ None) × EndsHelp ended

-- words that can be taken for nothing but a mistake, and words that are taken and ask for nothing, are refused
abbrev pub AnswersMistake : RunArguments → RunEnd → Type 0
AnswersMistake given ended =
    may_show (word_faults (gate_words given.words)) ≡ false
    → (may_refuse (word_faults (gate_words given.words)) ≡ true)
    ⊎ (request_in (gate_words given.words) given.cwd ≡ None)
    → (ended ≡ Usage) ⊎ (ended ≡ Refused Memory)

pub record AnswersWords (given : RunArguments) (told : Option Request) (ended : RunEnd) : Type 0 where
  pub request : AnswersRequest given told ended
  pub help : AnswersHelp given told ended
  pub mistake : AnswersMistake given ended
