-- What is found on the way to the licences of crates: where the policy's files are, what comes of its load, the graph
-- of the metadata; which calls that takes. A command puts its own steps between.
use Rattle.std.specs.Prelude.{◌≡◌, ◌≢◌, ◌&&◌, ℕ, Bool, List, [], ◌++◌, Option, Some, None, Result, Ok, Err}
use Rattle.std.specs.Prelude.{if◌then◌else◌}
use Rattle.std.specs.Option.{option_and_then}
use Rattle.deny_text.specs.Path.{join_of}
use Rattle.tree_core.specs.Call.{Call}
use Rattle.tree_core.specs.Trace.{faults_after}
use Rattle.graph_core.specs.Metadata.{Graph}
use Rattle.tree_core.specs.declared.texts.fault.ReadFault.{ReadFault}
use Rattle.tree_core.specs.declared.texts.fault.ReadFault.TheVariants.{Failed}
use Rattle.tree_core.specs.texts.Search.{candidates}
use Rattle.tree_core.specs.declared.texts.search.SoughtFile.TheVariants.{Policy, Exceptions}
use Rattle.graph_workspace.specs.Krates.{graph_in}
use Rattle.diag_core.specs.File.{File, file_id_at}
use Rattle.policy_load.specs.Heard.{LoadHeard}
use Rattle.policy_load.specs.Load.{LoadResult, load_of, with_policy}
use Rattle.diag_print.specs.Findings.{printed_findings}
use Rattle.policy_load.specs.declared.error.LoadError.{LoadError}
use Rattle.diag_print.specs.declared.context.LogContext.{LogContext}
use Rattle.policy_core.specs.declared.config.root.RootConfig.{RootConfig}
use Rattle.policy_core.specs.text.Config.{config_of_text}
use Rattle.policy_core.specs.declared.text.error.ConfigError.{ConfigError}
use Rattle.policy_core.specs.declared.text.text.ConfigText.{ConfigText}
use Rattle.graph_workspace.specs.declared.error.KratesError.{KratesError}
use Rattle.spdx_terms.specs.catalog.Catalog.{CatalogLists}
use Rattle.gather_core.specs.Calls.{calls_of_all}
use Rattle.policy_load.specs.declared.loading.PolicyPaths.{PolicyPaths}
use Rattle.policy_core.specs.Policy.{PolicyFound}
use Rattle.policy_core.specs.text.Text.{config_text_of}
use Rattle.run_found.specs.declared.error.Error.{Error}
use Rattle.run_found.specs.declared.error.Error.TheVariants.{ConfigRead}
use Rattle.run_found.specs.Error.{error_of_krates, error_of_load}
use Rattle.run_found.specs.Given.{RequestArguments}
use Rattle.run_found.specs.Hearing.{RequestHearing, LooksResult, look_failed, nowhere, at, unended, count_behind}
use Rattle.run_found.specs.Hearing.{is_ended, is_read_where_due, look_calls, looks_by, read_calls, text_by}
use Rattle.run_found.specs.Steps.{◌>>=◌, unless_refused}

-- ---- where the policy's files are

-- the paths at which a policy is looked for: none where one is given
abbrev pub sought_for : Option (List ℕ) → List ℕ → List (List ℕ)
sought_for (Some path) manifest = []
sought_for None manifest = candidates Policy manifest

abbrev pub paths_sought : RequestArguments → List (List ℕ)
paths_sought given = sought_for given.context.config_path given.context.manifest_path

-- the tree's count of faults behind the looks for a policy
abbrev pub count_sought : RequestArguments → RequestHearing → ℕ
count_sought given hearing = faults_after hearing.begun (look_calls (paths_sought given) hearing.sought)

-- where a file is that was looked for, by what the looks came to between two counts
abbrev pub path_by : ℕ → ℕ → LooksResult → Result (Option (List ℕ)) Error
path_by begun after look_failed = Err (ConfigRead (Failed begun after))
path_by begun after nowhere = Ok None
path_by begun after (at path) = Ok (Some path)
path_by begun after unended = Ok None

-- the policy's path: the given one, joined to the working folder, else what the looks came to
abbrev pub config_by : List ℕ → Option (List ℕ) → Result (Option (List ℕ)) Error → Result (Option (List ℕ)) Error
config_by cwd (Some path) found = Ok (Some (join_of cwd path))
config_by cwd None found = found

abbrev pub config_in : RequestArguments → RequestHearing → Result (Option (List ℕ)) Error
config_in given hearing =
    config_by given.context.cwd given.context.config_path
    (path_by hearing.begun (count_sought given hearing) (looks_by (paths_sought given) hearing.sought))

-- an exceptions file is looked for where no look for a policy failed
abbrev pub looked_behind : List ℕ → Result (Option (List ℕ)) Error → List (List ℕ)
looked_behind manifest (Ok config) = candidates Exceptions manifest
looked_behind manifest (Err error) = []

abbrev pub paths_looked : RequestArguments → RequestHearing → List (List ℕ)
paths_looked given hearing = looked_behind given.context.manifest_path (config_in given hearing)

abbrev pub count_looked : RequestArguments → RequestHearing → ℕ
count_looked given hearing =
    faults_after (count_sought given hearing) (look_calls (paths_looked given hearing) hearing.looks)

abbrev pub exceptions_in : RequestArguments → RequestHearing → Result (Option (List ℕ)) Error
exceptions_in given hearing =
    path_by hearing.begun (count_looked given hearing) (looks_by (paths_looked given hearing) hearing.looks)

-- where the two files are, or the failed look
abbrev pub paths_found : RequestArguments → RequestHearing → Result PolicyPaths Error
paths_found given hearing = do
  config ← config_in given hearing
  exceptions ← exceptions_in given hearing
  Ok (record { policy = config; exceptions = exceptions })

-- ---- what is read

abbrev pub count_policy : RequestArguments → RequestHearing → ℕ
count_policy given hearing = count_behind (count_looked given hearing) hearing.policy

abbrev pub count_exceptions : RequestArguments → RequestHearing → ℕ
count_exceptions given hearing = count_behind (count_policy given hearing) hearing.exceptions

abbrev pub count_metadata : RequestArguments → RequestHearing → ℕ
count_metadata given hearing = count_behind (count_exceptions given hearing) hearing.metadata

abbrev pub load_heard : RequestArguments → RequestHearing → LoadHeard
load_heard given hearing = record {
  policy = text_by hearing.begun (count_policy given hearing) hearing.policy;
  exceptions = text_by (count_policy given hearing) (count_exceptions given hearing) hearing.exceptions;
}

abbrev pub metadata_heard : RequestArguments → RequestHearing → Result (List ℕ) ReadFault
metadata_heard given hearing = text_by hearing.begun (count_metadata given hearing) hearing.metadata

-- ---- what comes of it, or the first refusal

abbrev pub load_at : RequestArguments → RequestHearing → PolicyPaths → LoadResult
load_at given hearing paths = load_of given.lists [] paths (load_heard given hearing)

abbrev pub loaded_of : RequestArguments → RequestHearing → Result LoadResult Error
loaded_of given hearing = do
  paths ← paths_found given hearing
  Ok (load_at given hearing paths)

abbrev pub or_load_error : Result PolicyFound LoadError → Result PolicyFound Error
or_load_error (Ok found) = Ok found
or_load_error (Err error) = Err (error_of_load error)

-- the policy: paths, and then its load
abbrev pub policy_found : RequestArguments → RequestHearing → Result PolicyFound Error
policy_found given hearing = do
  loaded ← loaded_of given hearing
  or_load_error loaded.answer

abbrev pub or_krates_error : Result Graph KratesError → Result Graph Error
or_krates_error (Ok graph) = Ok graph
or_krates_error (Err error) = Err (error_of_krates error)

abbrev pub graph_heard : Result (List ℕ) ReadFault → Result Graph Error
graph_heard heard = or_krates_error (graph_in heard)

-- ---- which files are read

-- the policy, where no look failed
abbrev pub policy_due : RequestArguments → RequestHearing → Option (List ℕ)
policy_due given hearing =
    option_and_then (λ (paths : PolicyPaths). paths.policy) (unless_refused (paths_found given hearing))

-- a file that is found by the path is the policy, and is not read for a second time
abbrev pub unless_known : Option ℕ → List ℕ → Option (List ℕ)
unless_known None path = Some path
unless_known (Some id) path = None

abbrev pub due_at : List File → Option (List ℕ) → Option (List ℕ)
due_at files None = None
due_at files (Some path) = unless_known (file_id_at files path) path

-- an exceptions file is read where the policy has its shape
abbrev pub due_behind : List File → Option (List ℕ) → Result RootConfig ConfigError → Option (List ℕ)
due_behind files path (Ok root) = due_at files path
due_behind files path (Err refused) = None

abbrev pub due_by_text : CatalogLists → PolicyPaths → Result ConfigText ConfigError → Option (List ℕ)
due_by_text lists paths (Ok text) =
    due_behind (with_policy [] paths text) paths.exceptions (config_of_text lists text.text)
due_by_text lists paths (Err refused) = None

abbrev pub exceptions_due : RequestArguments → RequestHearing → Option (List ℕ)
exceptions_due given hearing =
    option_and_then (λ paths. due_by_text given.lists paths (config_text_of (load_heard given hearing).policy))
    (unless_refused (paths_found given hearing))

-- The calls on the way to the policy, in order: the looks; the policy and the exceptions file, each where it is due and
-- was read.
abbrev pub policy_calls : RequestArguments → RequestHearing → List Call
policy_calls given hearing =
    look_calls (paths_sought given) hearing.sought
    ++ look_calls (paths_looked given hearing) hearing.looks
    ++ read_calls (policy_due given hearing) hearing.policy
    ++ read_calls (exceptions_due given hearing) hearing.exceptions

-- All calls: these, then the metadata, where it is due and was read, and crate after crate its reads. Where the
-- metadata is due a command says.
abbrev pub calls_with : RequestArguments → RequestHearing → Option (List ℕ) → List Call
calls_with given hearing metadata =
    policy_calls given hearing ++ read_calls metadata hearing.metadata ++ calls_of_all hearing.crates

-- all looks for a policy were made that were due
abbrev pub SoughtEnds : RequestArguments → RequestHearing → Type 0
SoughtEnds given hearing = looks_by (paths_sought given) hearing.sought ≢ unended

-- all looks were made that were due
pub record LooksEnd (given : RequestArguments) (hearing : RequestHearing) : Type 0 where
  pub sought : SoughtEnds given hearing
  pub looks : looks_by (paths_looked given hearing) hearing.looks ≢ unended

-- the file table once the policy was loaded
abbrev pub files_of_load : Result LoadResult Error → List File
files_of_load (Ok loaded) = loaded.files
files_of_load (Err error) = []

abbrev pub files_loaded : RequestArguments → RequestHearing → List File
files_loaded given hearing = files_of_load (loaded_of given hearing)

-- what is printed of a load at a format and level: all of its findings, or what is wrong with the policy's shape;
-- nothing where there was none
abbrev pub load_text : LogContext → Result LoadResult Error → List ℕ
load_text log (Ok loaded) = printed_findings log loaded.files loaded.findings
load_text log (Err error) = []

-- each look and each read that a load takes was made where it was due, and something is read by it
abbrev pub is_load_heard : RequestArguments → RequestHearing → Bool
is_load_heard given hearing =
    is_ended (looks_by (paths_sought given) hearing.sought)
    && (is_ended (looks_by (paths_looked given hearing) hearing.looks)
    && (is_read_where_due (policy_due given hearing) hearing.policy
    && is_read_where_due (exceptions_due given hearing) hearing.exceptions))

-- What is printed of a load by what was read. Nothing is reported of a policy or an exceptions file that was not read
-- where it was due.
abbrev pub load_told : RequestArguments → RequestHearing → List ℕ
load_told given hearing = if is_load_heard given hearing then load_text given.log (loaded_of given hearing) else []

-- ---- with a command's own steps

-- what was found: the policy, and the crates with the edges between them
pub record PolicyAndGraph : Type 0 where
  pub policy : PolicyFound
  pub graph : Graph

-- no call is known of
pub record HearsNothing (hearing : RequestHearing) : Type 0 where
  pub sought : hearing.sought ≡ []
  pub looks : hearing.looks ≡ []
  pub policy : hearing.policy ≡ None
  pub exceptions : hearing.exceptions ≡ None
  pub metadata : hearing.metadata ≡ None
