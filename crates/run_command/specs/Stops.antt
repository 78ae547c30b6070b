-- When a command is refused before it does its own: in which order, for which cause, and what was read and written up
-- to there.
use Rattle.std.specs.Prelude.{◌≡◌, ℕ, List, [], ◌++◌, None, Option, Result, Ok, Err}
use Rattle.tree_core.specs.Call.{Call}
use Rattle.graph_core.specs.Krate.{CrateRecord}
use Rattle.graph_core.specs.Metadata.{Graph}
use Rattle.graph_core.specs.selection.Roots.{HasRoot, LacksRoots}
use Rattle.policy_core.specs.declared.valid.policy.ValidConfig.{ValidConfig}
use Rattle.tree_core.specs.texts.Cause.{Cause, no_memory, refused_write}
use Rattle.run_overrides.specs.Twice.{first_twice}
use Rattle.run_found.specs.declared.error.Error.{Error}
use Rattle.run_found.specs.declared.error.Error.TheVariants.{NoRoots}
use Rattle.run_found.specs.Error.{cause_of}
use Rattle.run_found.specs.Finds.{HearsPolicy, StopsBeforePolicy}
use Rattle.run_found.specs.Found.{PolicyAndGraph, files_loaded}
use Rattle.run_found.specs.Hearing.{MadeOn, RequestHearing, TreeSeen}
use Rattle.run_found.specs.Licenses.{HaveTurns}
use Rattle.run_found.specs.Policy.{GraphAt, PolicyAt}
pub use Rattle.run_found.specs.Selection.{PolicyAndCrates}
use Rattle.run_found.specs.Written.{SinkSeen, TextWritten}
use Rattle.run_command.specs.Found.{AreSelected, HearsAllDue, IsHeard, PutsInOrder, calls_of, choice_in, input_of}
use Rattle.run_command.specs.Found.{load_heard, scanner_of_given}
use Rattle.run_command.specs.Given.{CommandArguments}

-- ---- what is asked for

-- All of the request is carried, and it sets no code and no level twice; the policy and the metadata are of their
-- forms, and ask for these crates.
pub record Asks (given : CommandArguments) (hearing : RequestHearing) (asked : PolicyAndCrates) : Type 0 where
  pub carried : given.options.unsupported ≡ None
  pub policy : PolicyAt given.request hearing asked.policy
  pub once : first_twice given.options.levels ≡ None
  pub metadata : GraphAt given.request hearing asked.graph
  pub root : HasRoot asked.graph (choice_in given asked.policy)
  pub selected : AreSelected given asked.policy asked.graph asked.crates

-- ---- the first refusal

-- no root is left
abbrev pub RefusesSelection : CommandArguments → PolicyAndGraph → Error → Type 0
RefusesSelection given found (NoRoots base excluded unpublished) =
    LacksRoots found.graph (choice_in given found.policy) base excluded unpublished
RefusesSelection given found _ = ⊥

-- of what is looked for, else of the selection
abbrev pub Refuses : CommandArguments → Result PolicyAndGraph Error → Error → Type 0
Refuses given (Err first) error = first ≡ error
Refuses given (Ok found) error = RefusesSelection given found error

-- The refusal is the first one, by what was read up to there.
pub record IsRefusal (given : CommandArguments) (hearing : RequestHearing) (error : Error) : Type 0 where
  pub due : HearsAllDue given hearing
  pub crates : hearing.crates ≡ []
  pub refused : Refuses given (input_of given hearing) error

-- ---- where memory was wanting, or a write was refused

-- the first ones of the crates that are asked for by what was read had their turns, under the policy that was found
pub record AreSettling (given : CommandArguments) (hearing : RequestHearing) (lost : List Call) : Type 0 where
  pub found : PolicyAndGraph
  pub is : input_of given hearing ≡ Ok found
  pub policy : ValidConfig
  pub ordered : PutsInOrder given found.policy policy
  pub chosen : List CrateRecord
  pub selected : AreSelected given found.policy found.graph chosen
  pub turns : HaveTurns (scanner_of_given given policy) policy (files_loaded given.request hearing) chosen
      hearing.crates lost

-- Where a command was given up, what was read before is all that was due there, and nothing was read behind: on the way
-- to the policy, at the read of the metadata, or among the crates, perhaps in a call that found no memory.
pub data StopsAt (given : CommandArguments) (hearing : RequestHearing) (lost : List Call) : Type 0 where
  at_policy : StopsBeforePolicy given.request hearing → hearing.metadata ≡ None → hearing.crates ≡ [] → lost ≡ []
      → StopsAt given hearing lost
  at_metadata : HearsPolicy given.request hearing → hearing.crates ≡ [] → lost ≡ [] → StopsAt given hearing lost
  at_crates : HearsAllDue given hearing → AreSettling given hearing lost → StopsAt given hearing lost

-- The calls that are due by what was read, up to some place, and perhaps one more, which found no memory.
pub record IsGivenUp (given : CommandArguments) (tree : TreeSeen) (hearing : RequestHearing) : Type 0 where
  pub begun : hearing.begun ≡ tree.count_before
  pub lost : List Call
  pub made : MadeOn tree (calls_of given hearing ++ lost)
  pub stops : StopsAt given hearing lost

-- want of memory and a refused write may come at any place, and nothing else may
abbrev pub IsRefusedBy : CommandArguments → TreeSeen → RequestHearing → Error → Cause → Type 0
IsRefusedBy given tree hearing error no_memory = IsGivenUp given tree hearing
IsRefusedBy given tree hearing error (refused_write before after) = IsGivenUp given tree hearing
IsRefusedBy given tree hearing error _ = IsHeard given tree hearing × IsRefusal given hearing error

-- ---- what is so of a tree and a sink

-- The command was refused so by what was read, and what is printed of the load was written to the sink; a prefix of
-- that where memory was wanting or a write was refused.
pub record Stops (given : CommandArguments) (tree : TreeSeen) (err : SinkSeen) (error : Error) : Type 0 where
  pub hearing : RequestHearing
  pub refused : IsRefusedBy given tree hearing error (cause_of error)
  pub written : TextWritten (load_heard given hearing) err.old err.new err.before err.after (cause_of error)
