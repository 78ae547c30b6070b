-- Lawful input: what nothing refuses.
use Rattle.std.specs.Prelude.{◌≡◌, ◌++◌, ℕ, List, All}
use Rattle.tree_core.specs.Call.{Call}
use Rattle.tree_core.specs.Content.{Content}
use Rattle.tree_core.specs.Faults.{Rose}
use Rattle.run_found.specs.Hearing.{MadeOn, RequestHearing, TreeSeen}
pub use Rattle.run_found.specs.Hearing.{TellsContent}
use Rattle.run_found.specs.Written.{SinkSeen}
use Rattle.run_command.specs.Found.{HearsAllDue, calls_of}
use Rattle.run_command.specs.Given.{CommandArguments}
use Rattle.run_command.specs.Stops.{Asks, PolicyAndCrates}

-- neither sink refused a write
pub record AreQuiet (err out : SinkSeen) : Type 0 where
  pub err_quiet : Rose err.before err.after → ⊥
  pub out_quiet : Rose out.before out.after → ⊥

-- ---- by what was read

-- the calls of this hearing were made, and then these; nothing refuses what was read by the first ones
pub record IsLawfulRead (given : CommandArguments) (tree : TreeSeen) (hearing : RequestHearing) (behind : List Call)
    (asked : PolicyAndCrates) : Type 0 where
  pub begun : hearing.begun ≡ tree.count_before
  pub made : MadeOn tree (calls_of given hearing ++ behind)
  pub due : HearsAllDue given hearing
  pub asks : Asks given hearing asked

-- ---- by a content, where the tree tells it

-- what is read of the content, from a count of faults on, where no call fails and no memory is wanting
pub record IsHeardOf (given : CommandArguments) (content : Content) (count : ℕ)
    (hearing : RequestHearing) : Type 0 where
  pub begun : hearing.begun ≡ count
  pub due : HearsAllDue given hearing
  pub tells : All (TellsContent content) (calls_of given hearing)

-- nothing refuses what the content has, and no count of the tree rose
pub record IsLawfulIn (given : CommandArguments) (content : Content) (tree : TreeSeen) (hearing : RequestHearing)
    (asked : PolicyAndCrates) : Type 0 where
  pub heard : IsHeardOf given content tree.count_before hearing
  pub asks : Asks given hearing asked
  pub still : Rose tree.count_before tree.count_after → ⊥
