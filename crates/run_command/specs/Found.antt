-- What a request and the files ask of a command, all of which is carried, step by step, and which calls that takes.
use Rattle.std.specs.Prelude.{◌≡◌, ◌&&◌, ℕ, ℤ, Bool, List, Option, Some, None, Result, Ok, Err}
use Rattle.tree_core.specs.Call.{Call}
use Rattle.graph_core.specs.Krate.{CrateRecord}
use Rattle.graph_core.specs.Metadata.{Graph}
use Rattle.graph_core.specs.selection.Choice.{Choice}
use Rattle.graph_core.specs.selection.Listed.{IsListOf}
use Rattle.graph_core.specs.selection.Walks.{Selected}
use Rattle.policy_core.specs.Policy.{PolicyFound}
use Rattle.policy_parts.specs.declared.graph.GraphConfig.{GraphConfig}
use Rattle.policy_core.specs.declared.valid.policy.ValidConfig.{ValidConfig}
use Rattle.policy_core.specs.validate.Order.{PutsPolicyInOrder}
use Rattle.gather_core.specs.Calls.{CrateTurn}
use Rattle.gather_license.specs.expression.Scanned.{Scanner}
use Rattle.run_context.specs.Asked.{LeavesOut, choice_asked}
use Rattle.run_overrides.specs.Twice.{Twice, first_twice}
use Rattle.run_found.specs.declared.error.Error.{Error}
use Rattle.run_found.specs.declared.error.Error.TheVariants.{OverrideTwice}
use Rattle.run_found.specs.Finds.{HearsPolicy}
use Rattle.run_found.specs.Found.{PolicyAndGraph, calls_with, files_loaded, graph_heard, load_told, metadata_heard}
use Rattle.run_found.specs.Found.{policy_found}
use Rattle.run_found.specs.Hearing.{RequestHearing, IsReadWhereDue, MadeOn, TreeSeen}
use Rattle.run_found.specs.Licenses.{scanner_of_policy, turns_heard}
use Rattle.run_found.specs.Selection.{included_in}
use Rattle.run_found.specs.Steps.{◌>>=◌}
use Rattle.run_command.specs.Given.{CommandArguments}

-- ---- the policy that counts

-- a policy, with the least score that the command asks for in the place of its own
abbrev pub at_threshold : Option ℤ → ValidConfig → ValidConfig
at_threshold None policy = policy
at_threshold (Some threshold) policy = record policy { confidence_threshold = threshold }

-- the policy that was found, so, its lists put in order
abbrev pub PutsInOrder : CommandArguments → PolicyFound → ValidConfig → Type 0
PutsInOrder given found policy = PutsPolicyInOrder (at_threshold given.options.threshold found.licenses) policy

-- what a policy leaves out: its specs do, and its flags where these count
abbrev pub left_by : Bool → GraphConfig → LeavesOut
left_by with_flags graph =
    record {
      exclude = graph.exclude;
      exclude_dev = with_flags && graph.exclude_dev;
      exclude_unpublished = with_flags && graph.exclude_unpublished;
    }

-- the crates that are left out: by the words, and by the policy behind them
abbrev pub choice_in : CommandArguments → PolicyFound → Choice
choice_in given policy = choice_asked given.request.context (left_by given.options.with_flags policy.graph)

-- the crates that the command looks at, in the order of their ids
abbrev pub AreSelected : CommandArguments → PolicyFound → Graph → List CrateRecord → Type 0
AreSelected given policy graph crates =
    IsListOf graph (Selected graph (choice_in given policy) (included_in policy)) crates

-- ---- step by step

-- nothing, where no code and no level is there twice
abbrev pub unless_twice : Option Twice → Result (Unit {0}) Error
unless_twice None = Ok tt
unless_twice (Some twice) = Err (OverrideTwice twice.name twice.first twice.second)

-- The policy, or the first refusal: of the looks, of the policy, of a code or a level that is there twice.
abbrev pub policy_asked : CommandArguments → RequestHearing → Result PolicyFound Error
policy_asked given hearing = do
  policy ← policy_found given.request hearing
  once ← unless_twice (first_twice given.options.levels)
  Ok policy

-- What is found, or the first refusal: of these, and then of the metadata.
abbrev pub input_of : CommandArguments → RequestHearing → Result PolicyAndGraph Error
input_of given hearing = do
  policy ← policy_asked given hearing
  graph ← graph_heard (metadata_heard given.request hearing)
  Ok (record { policy = policy; graph = graph })

-- ---- the calls

-- the metadata is read where that policy was found
abbrev pub metadata_by : CommandArguments → Result PolicyFound Error → Option (List ℕ)
metadata_by given (Ok policy) = given.request.context.metadata_path
metadata_by given (Err error) = None

abbrev pub metadata_due : CommandArguments → RequestHearing → Option (List ℕ)
metadata_due given hearing = metadata_by given (policy_asked given hearing)

-- the looks, the policy, the exceptions file, the metadata, and crate after crate its reads
abbrev pub calls_of : CommandArguments → RequestHearing → List Call
calls_of given hearing = calls_with given.request hearing (metadata_due given hearing)

-- each look and each read that was due was made, and something is read by it
pub record HearsAllDue (given : CommandArguments) (hearing : RequestHearing) : Type 0 where
  pub policy : HearsPolicy given.request hearing
  pub metadata : IsReadWhereDue (metadata_due given hearing) hearing.metadata

-- a command on a tree made the calls of this hearing, and no other
pub record IsHeard (given : CommandArguments) (tree : TreeSeen) (hearing : RequestHearing) : Type 0 where
  pub begun : hearing.begun ≡ tree.count_before
  pub made : MadeOn tree (calls_of given hearing)

-- what is printed of the load by what was read
abbrev pub load_heard : CommandArguments → RequestHearing → List ℕ
load_heard given hearing = load_told given.request hearing

-- ---- turn after turn

-- what texts are identified by, under a policy
abbrev pub scanner_of_given : CommandArguments → ValidConfig → Scanner
scanner_of_given given policy =
    scanner_of_policy given.options.keeps given.request.lists given.match_of policy

-- the turns of the crates, one after another, each by its own reads
abbrev pub turns_in : CommandArguments → RequestHearing → ValidConfig → List CrateTurn
turns_in given hearing policy =
    turns_heard (scanner_of_given given policy) policy (files_loaded given.request hearing) hearing.crates
