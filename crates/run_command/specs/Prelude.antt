-- What comes before a command: the look at the manifest, and an organisation's own names and texts.
use Rattle.std.specs.Prelude.{◌≡◌, ℕ, List, [], Option, Some, None, Result, Ok, Err}
use Rattle.tree_core.specs.Call.{Call}
use Rattle.tree_core.specs.Content.{Content}
use Rattle.graph_workspace.specs.declared.error.UnsupportedPart.{UnsupportedPart}
use Rattle.run_found.specs.declared.error.Error.{Error}
use Rattle.run_found.specs.declared.error.Error.TheVariants.{NotCarried}
use Rattle.run_found.specs.Hearing.{MadeOn, TreeSeen, tree_seen}
use Rattle.run_found.specs.Written.{IsSilent, SinkSeen}
use Rattle.run_found.specs.own_names.Found.{FindsLists}
use Rattle.run_found.specs.own_names.Given.{ListsGiven}
use Rattle.run_command.specs.Given.{CommandArguments, CommandRequest, command_by, handed_in}
use Rattle.run_command.specs.Manifest.{LooksAtManifest}

-- no call was made on the tree, and it is as before
abbrev pub IsUntouched : TreeSeen → Type 0
IsUntouched tree = MadeOn tree []

-- what a tree reported up to a moment, and from there on
abbrev pub up_to : TreeSeen → Option Content → ℕ → List Call → TreeSeen
up_to tree told count calls = tree_seen tree.told told tree.count_before count tree.calls_before calls

abbrev pub from_there : TreeSeen → Option Content → ℕ → List Call → TreeSeen
from_there tree told count calls = tree_seen told tree.tells count tree.count_after calls tree.calls_after

-- A part of the request is not carried, and that is the refusal, without a call; or the manifest is not there, or
-- memory was wanting at the look, and nothing else was called; or it is there, and an organisation's own names and
-- texts are not found, and nothing was called behind them; or these are found, where some are asked for.
pub data ComesTo (given : CommandRequest) (tree : TreeSeen) (answer : Result ListsGiven Error) : Type 0 where
  unsupported : (what : UnsupportedPart) → given.command.options.unsupported ≡ Some what
      → answer ≡ Err (NotCarried what) → IsUntouched tree → ComesTo given tree answer
  no_manifest : given.command.options.unsupported ≡ None → (error : Error)
      → LooksAtManifest given.command.request.context.manifest_path tree (Err error) → answer ≡ Err error
      → ComesTo given tree answer
  no_lists : given.command.options.unsupported ≡ None → (told : Option Content) (count : ℕ) (calls : List Call)
      → LooksAtManifest given.command.request.context.manifest_path (up_to tree told count calls) (Ok tt)
      → (error : Error) → FindsLists (handed_in given) given.own (from_there tree told count calls) (Err error)
      → answer ≡ Err error → ComesTo given tree answer
  lists_had : given.command.options.unsupported ≡ None → (told : Option Content) (count : ℕ) (calls : List Call)
      → LooksAtManifest given.command.request.context.manifest_path (up_to tree told count calls) (Ok tt)
      → (lists : ListsGiven)
      → FindsLists (handed_in given) given.own (from_there tree told count calls) (Ok lists) → answer ≡ Ok lists
      → ComesTo given tree answer

-- A command is refused before it begins, and nothing was written; or it has begun, and this is so of the names and
-- texts that count, of the command by these, of its answer, and of what the tree reported behind that.
pub data RunsBy {X : Type 0} (given : CommandRequest)
    (IsDone : ListsGiven → CommandArguments → TreeSeen → Result X Error → Type 0) (tree : TreeSeen)
    (err out : SinkSeen) (answer : Result X Error) : Type 0 where
  stopped : (error : Error) → ComesTo given tree (Err error) → answer ≡ Err error → IsSilent err → IsSilent out
      → RunsBy given IsDone tree err out answer
  came : (told : Option Content) (count : ℕ) (calls : List Call) (lists : ListsGiven)
      → ComesTo given (up_to tree told count calls) (Ok lists)
      → IsDone lists (command_by given.command lists) (from_there tree told count calls) answer
      → RunsBy given IsDone tree err out answer

-- the same of a command that needs no text of a name
abbrev pub Runs : {X : Type 0} → CommandRequest → (CommandArguments → TreeSeen → Result X Error → Type 0) → TreeSeen
    → SinkSeen → SinkSeen → Result X Error → Type 0
Runs {X} given IsDone tree err out answer = RunsBy given (λ lists own. IsDone own) tree err out answer
