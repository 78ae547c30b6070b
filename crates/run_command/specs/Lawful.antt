-- What was read in a run that came to its command, and what is lawful: what nothing refuses.
use Rattle.std.specs.Prelude.{◌≡◌, ℕ, true, List, ◌∷◌, ◌++◌, All, Some, Ok}
use Rattle.tree_core.specs.Call as call
use Rattle.tree_core.specs.Call.{Call}
use Rattle.tree_core.specs.Content.{Content}
use Rattle.run_found.specs.Hearing.{MadeOn, RequestHearing, TellsContent, TreeSeen}
use Rattle.run_found.specs.own_names.Given.{ListsGiven}
use Rattle.run_found.specs.own_names.Heard.{ListsHearing, given_heard, lists_calls}
use Rattle.run_command.specs.Found.{HearsAllDue, calls_of}
use Rattle.run_command.specs.Given.{CommandRequest, command_by, handed_in}
use Rattle.run_command.specs.Manifest.{is_manifest, manifest_call}
use Rattle.run_command.specs.Stops.{Asks, PolicyAndCrates}

-- what is read of an organisation's own names and texts, and what behind them; before both the manifest was there
pub record CommandHearing : Type 0 where
  pub lists : ListsHearing
  pub found : RequestHearing

-- the count of faults when the run began
pub record HasBegun (hearing : CommandHearing) (count : ℕ) : Type 0 where
  pub lists : hearing.lists.begun ≡ count
  pub found : hearing.found.begun ≡ count

-- the run came to its command: the path is that of a manifest, and these names and texts are found
pub record ComesBy (given : CommandRequest) (hearing : CommandHearing) (had : ListsGiven) : Type 0 where
  pub named : is_manifest given.command.request.context.manifest_path ≡ true
  pub heard : given_heard (handed_in given) given.own hearing.lists ≡ Some (Ok had)

-- the look, with the answer that the manifest is there
abbrev pub there_call : CommandRequest → Call
there_call given = manifest_call given.command.request.context.manifest_path (call.told true)

-- the look, the calls for names and texts, and those of the command by these
abbrev pub run_calls : CommandRequest → CommandHearing → ListsGiven → List Call
run_calls given hearing had =
    there_call given
    ∷ (lists_calls (handed_in given) given.own hearing.lists
    ++ calls_of (command_by given.command had) hearing.found)

-- a run on a tree came to its command so, and made these calls, and no other
pub record IsRunHeard (given : CommandRequest) (tree : TreeSeen) (hearing : CommandHearing)
    (had : ListsGiven) : Type 0 where
  pub begun : HasBegun hearing tree.count_before
  pub comes : ComesBy given hearing had
  pub made : MadeOn tree (run_calls given hearing had)

-- ---- what is lawful

-- the run comes to its command, each call that is due there is read, and it asks for these crates
pub record IsLawful (given : CommandRequest) (hearing : CommandHearing) (had : ListsGiven)
    (asked : PolicyAndCrates) : Type 0 where
  pub comes : ComesBy given hearing had
  pub due : HearsAllDue (command_by given.command had) hearing.found
  pub asks : Asks (command_by given.command had) hearing.found asked

-- by what was read: these calls were made, and then those behind them
pub record IsLawfulRun (given : CommandRequest) (tree : TreeSeen) (hearing : CommandHearing) (had : ListsGiven)
    (behind : List Call) (asked : PolicyAndCrates) : Type 0 where
  pub begun : HasBegun hearing tree.count_before
  pub made : MadeOn tree (run_calls given hearing had ++ behind)
  pub lawful : IsLawful given hearing had asked

-- by a content: each call is answered with what the content has
pub record IsLawfulOver (given : CommandRequest) (content : Content) (count : ℕ) (hearing : CommandHearing)
    (had : ListsGiven) (asked : PolicyAndCrates) : Type 0 where
  pub begun : HasBegun hearing count
  pub tells : All (TellsContent content) (run_calls given hearing had)
  pub lawful : IsLawful given hearing had asked
