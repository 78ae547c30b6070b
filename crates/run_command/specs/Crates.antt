-- The policy of a command and its crates, before their licences are settled.
use Rattle.std.specs.Prelude.{◌≡◌, ℕ, List, [], length, Option, Some, None, Result, Ok, Err}
use Rattle.std.specs.List.{filter_map}
use Rattle.tree_core.specs.Call.{CallAnswer}
use Rattle.tree_core.specs.Faults.{Gained}
use Rattle.tree_core.specs.texts.Cause.{Cause, failed_read, refused_write}
use Rattle.diag_core.specs.File.{File}
use Rattle.graph_core.specs.Metadata.{Graph}
use Rattle.graph_core.specs.selection.Choice.{choice_of, spec_read}
use Rattle.graph_core.specs.selection.Listed.{IsChosen}
use Rattle.graph_core.specs.selection.Roots.{HasRoot}
use Rattle.policy_core.specs.Policy.{PolicyFound}
use Rattle.run_overrides.specs.Twice.{first_twice}
use Rattle.run_found.specs.declared.error.Error.{Error}
use Rattle.run_found.specs.Finds.{PolicyHeard, hearing_of}
use Rattle.run_found.specs.Found.{files_loaded, graph_heard, metadata_heard, policy_found}
use Rattle.run_found.specs.Hearing.{MadeOn, RequestHearing, TreeSeen}
use Rattle.run_found.specs.Written.{SinkSeen}
use Rattle.run_command.specs.declared.crates.CratesFound.{CratesFound}
use Rattle.run_command.specs.declared.crates.MetadataFound.{MetadataFound}
use Rattle.run_command.specs.declared.crates.PolicyUse.{PolicyUse}
use Rattle.run_command.specs.Found.{HearsAllDue, PutsInOrder, calls_of, choice_in, load_heard}
use Rattle.run_command.specs.Given.{CommandArguments, CommandOptions}
use Rattle.run_command.specs.Stops.{Stops}

-- the options of a command all of whose request is carried
abbrev pub options_of : PolicyUse → CommandOptions
options_of use_of = record {
  unsupported = None;
  levels = use_of.levels.now;
  with_flags = use_of.with_flags;
  threshold = use_of.threshold;
  keeps = use_of.keeps;
}

-- what is read up to the crates
abbrev pub hearing_up_to : TreeSeen → PolicyHeard → CallAnswer → RequestHearing
hearing_up_to tree heard answer = hearing_of tree.count_before heard (Some answer) []

-- The calls of what was read were made, each that was due, and no other; a policy was found, and its lists are in
-- order; the metadata tells of a graph with a root, from which the crates are chosen; the files are those of the load;
-- and all that is reported of that was written.
pub record HasCrates (given : CommandArguments) (tree : TreeSeen) (err : SinkSeen) (files : List File)
    (found : CratesFound) : Type 0 where
  pub heard : PolicyHeard
  pub answer : CallAnswer
  pub made : MadeOn tree (calls_of given (hearing_up_to tree heard answer))
  pub due : HearsAllDue given (hearing_up_to tree heard answer)
  pub policy : PolicyFound
  pub policy_is : policy_found given.request (hearing_up_to tree heard answer) ≡ Ok policy
  pub once : first_twice given.options.levels ≡ None
  pub ordered : PutsInOrder given policy found.policy
  pub graph : Graph
  pub graph_is : graph_heard (metadata_heard given.request (hearing_up_to tree heard answer)) ≡ Ok graph
  pub root : HasRoot graph (choice_in given policy)
  pub chosen : IsChosen graph (choice_in given policy) found.krates
  pub files_are : files ≡ files_loaded given.request (hearing_up_to tree heard answer)
  pub written : Gained err.old err.new (load_heard given (hearing_up_to tree heard answer))

-- The same, where what the metadata tells is still whole, with the choice that is made in it: a root may be wanting.
pub record HasMetadata (given : CommandArguments) (tree : TreeSeen) (err : SinkSeen) (files : List File)
    (found : MetadataFound) : Type 0 where
  pub heard : PolicyHeard
  pub answer : CallAnswer
  pub made : MadeOn tree (calls_of given (hearing_up_to tree heard answer))
  pub due : HearsAllDue given (hearing_up_to tree heard answer)
  pub policy : PolicyFound
  pub policy_is : policy_found given.request (hearing_up_to tree heard answer) ≡ Ok policy
  pub once : first_twice given.options.levels ≡ None
  pub ordered : PutsInOrder given policy found.policy
  pub graph_is : graph_heard (metadata_heard given.request (hearing_up_to tree heard answer)) ≡ Ok found.asked.metadata
  pub choice_is : choice_of found.asked.selection ≡ choice_in given policy
  pub own : found.asked.own_specs ≡ length (filter_map spec_read given.request.context.exclude)
  pub files_are : files ≡ files_loaded given.request (hearing_up_to tree heard answer)
  pub written : Gained err.old err.new (load_heard given (hearing_up_to tree heard answer))

abbrev pub FindsMetadata : CommandArguments → TreeSeen → SinkSeen → List File → Result MetadataFound Error → Type 0
FindsMetadata given tree err files (Ok found) = HasMetadata given tree err files found
FindsMetadata given tree err files (Err error) = Stops given tree err error

-- a refusal that no call of a tree and no write causes
abbrev pub IsTold : Cause → Type 0
IsTold (failed_read before after) = ⊥
IsTold (refused_write before after) = ⊥
IsTold _ = Unit {0}

abbrev pub FindsCrates : CommandArguments → TreeSeen → SinkSeen → List File → Result CratesFound Error → Type 0
FindsCrates given tree err files (Ok found) = HasCrates given tree err files found
FindsCrates given tree err files (Err error) = Stops given tree err error

-- crates that are chosen from metadata: of the graph and the choice that were found
pub record ChoosesCrates (given : CommandArguments) (tree : TreeSeen) (err : SinkSeen) (files : List File)
    (found : MetadataFound) (crates : CratesFound) : Type 0 where
  pub has : HasCrates given tree err files crates
  pub graph : has.graph ≡ found.asked.metadata
  pub choice : choice_of found.asked.selection ≡ choice_in given has.policy

abbrev pub FindsChosen : CommandArguments → TreeSeen → SinkSeen → List File → MetadataFound → Result CratesFound Error
    → Type 0
FindsChosen given tree err files found (Ok crates) = ChoosesCrates given tree err files found crates
FindsChosen given tree err files found (Err error) = Stops given tree err error
