-- What is printed behind a refusal, and what is asked for it.
use Rattle.std.specs.Prelude.{◌≡◌, ◌⊎◌, ℕ, List, Option}
use Rattle.tree_core.specs.Call.{Call}
use Rattle.tree_core.specs.Script.{LineWritten}
use Rattle.run_found.specs.declared.error.Error.{Error}
use Rattle.run_request.specs.declared.request.Request.{Request}
use Rattle.refusal_help.specs.declared.again.Again.{Again}
use Rattle.refusal_help.specs.Again.{IsAgain, IsAskedWhereDue}
use Rattle.refusal_help.specs.Help.{help_of}

-- the lines were written, or a prefix of them where the sink refused it; where memory was wanting, none of them
abbrev pub LinesWritten : Option (List ℕ) → Option (List ℕ) → ℕ → ℕ → List ℕ → Type 0
LinesWritten old new before after lines = LineWritten old new before after lines ⊎ ((new ≡ old) × (after ≡ before))

-- the calls that a tree reported at two moments, and what a sink reported, with its counts of faults
pub record ToldBetween : Type 0 where
  pub calls_old : List Call
  pub calls_new : List Call
  pub old : Option (List ℕ)
  pub new : Option (List ℕ)
  pub before : ℕ
  pub after : ℕ

abbrev pub told_between : List Call → List Call → Option (List ℕ) → Option (List ℕ) → ℕ → ℕ → ToldBetween
told_between calls_old calls_new old new before after =
    record { calls_old = calls_old; calls_new = calls_new; old = old; new = new; before = before; after = after }

-- no call was made, and nothing was written
pub record IsStill (told : ToldBetween) : Type 0 where
  pub calls : told.calls_new ≡ told.calls_old
  pub text : told.new ≡ told.old
  pub count : told.after ≡ told.before

-- the help of a refusal was written, by what was read of the policy once more
pub record TellsHelp (request : Request) (error : Error) (told : ToldBetween) : Type 0 where
  pub again : Again
  pub due : IsAskedWhereDue request.krate_ctx error told.calls_old told.calls_new
  pub heard : IsAgain request.krate_ctx told.calls_old told.calls_new again
  pub written : LinesWritten told.old told.new told.before told.after (help_of request again error)
