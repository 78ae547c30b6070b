-- How a gate begins and ends.
use Rattle.std.specs.Prelude.{◌≡◌, ◌≤◌, ℕ, List, Option, Result, Ok, Err, IfErr, IfOk, codes}
use Rattle.tree_core.specs.Call.{Call}
use Rattle.tree_core.specs.Content.{Content}
use Rattle.spdx_terms.specs.catalog.BuiltIn.{built_in}
use Rattle.spdx_terms.specs.catalog.Store.{match_of, text_of_store}
use Rattle.spdx_terms.specs.catalog.Table.{table_lists}
use Rattle.run_found.specs.Hearing.{HasMade, TreeSeen}
use Rattle.run_found.specs.Written.{IsSilent}
use Rattle.run_command.specs.Prelude.{from_there, up_to}
use Rattle.deny_run.specs.declared.outcome.Outcome.{Outcome}
use Rattle.deny_run.specs.Given.{RunArguments}
use Rattle.deny_run.specs.Run.{IsRun}
use Rattle.deny_run.specs.Seen.{HasLine, RunSeen, run_seen, sink_to}
use Rattle.refusal_help.specs.Told.{told_between}
use Rattle.deny_gate.specs.Behind.{TellsBehind, is_whole}
use Rattle.deny_gate.specs.declared.StartError.{StartError}
use Rattle.deny_gate.specs.declared.StartError.TheVariants.{Memory, Words, Folder}

-- what is written where the gate could not begin
abbrev pub start_line : StartError → List ℕ
start_line Memory = codes "error: out of memory\n"
start_line Words = codes "error: the words could not be read\n"
start_line Folder = codes "error: the working folder could not be read\n"

-- nothing came of a tree: what it tells of its content, its count of faults and its calls are as before
abbrev pub IsKept : TreeSeen → Type 0
IsKept tree =
    (tree.tells ≡ tree.told) × (tree.count_after ≡ tree.count_before) × (tree.calls_after ≡ tree.calls_before)

-- the outcome is that of a run over these words and this folder, with the catalogue and the licence texts that are
-- built in
pub record IsGateRun (words : List (List ℕ)) (folder : List ℕ) (seen : RunSeen) (outcome : Outcome) : Type 0 where
  pub given : RunArguments
  pub lists : given.lists ≡ table_lists
  pub match_of : given.match_of ≡ match_of built_in
  pub text_of : given.text_of ≡ text_of_store built_in
  pub words_given : given.words ≡ words
  pub folder_given : given.cwd ≡ folder
  pub run : IsRun given seen outcome

-- The run ended at some moment, at which the tree had reported so much and so much was on standard error; behind that
-- its help was printed, on standard error alone.
pub record RunsAndTells (words : List (List ℕ)) (folder : List ℕ) (seen : RunSeen) (outcome : Outcome) : Type 0 where
  pub content : Option Content
  pub count : ℕ
  pub calls : List Call
  pub written : Option (List ℕ)
  pub faults : ℕ
  pub ran : IsGateRun words folder
      (run_seen (up_to seen.tree content count calls) seen.out (sink_to seen.err written faults)) outcome
  pub told : TellsBehind (is_whole seen.err.before faults) outcome.request
      (told_between calls seen.tree.calls_after written seen.err.new faults seen.err.after) outcome.ended
  pub made : HasMade (from_there seen.tree content count calls)
  pub later : faults ≤ seen.err.after

-- the outcome is that of a run over some words and some folder, and its help was printed behind it
pub record RunsOverSome (seen : RunSeen) (outcome : Outcome) : Type 0 where
  pub words : List (List ℕ)
  pub folder : List ℕ
  pub ran : RunsAndTells words folder seen outcome

-- What a gate over an environment promises.
pub record IsGate (seen : RunSeen) (result : Result Outcome StartError) : Type 0 where
  -- Calls were made on the tree, and nothing else came of it.
  pub made : HasMade seen.tree
  -- Where it ran, it did what a run over some words and some folder does, and behind that standard error gained the
  -- help of a refusal; a prefix of it where a write was refused, and nothing where the run's own text was cut. Which
  -- words a process is given no clause says.
  pub ran : IfOk result (RunsOverSome seen)
  -- Where it could not begin, its line is on standard error, and standard output is as it was.
  pub lost : IfErr result (λ error. HasLine seen.err (start_line error) × IsSilent seen.out)

-- the number that the process ends with
abbrev pub ending_of : Result Outcome StartError → ℕ
ending_of (Ok outcome) = outcome.status
ending_of (Err error) = 1
