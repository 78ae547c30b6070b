-- No command is refused since a policy is not there: where none is, the one without entries is taken.
use Rattle.std.proofs.Common.{◌≡◌, ◌∙◌, refl, subst, ℕ, Bool, true, false, List, [], Option, Some, None, Result, Ok, Err}
use Rattle.std.specs.Prelude.{if◌then◌else◌}
use Rattle.std.specs.List.{list_any}
use Rattle.tree_core.specs.Call as call
use Rattle.tree_core.specs.Call.{CallAnswer}
use Rattle.tree_core.specs.Trace.{faults_after}
use Rattle.tree_core.specs.declared.texts.fault.ReadFault.{ReadFault}
use Rattle.tree_core.specs.declared.texts.fault.ReadFault.TheVariants.{Failed, Absent, Folder, NotUtf8}
use Rattle.diag_core.specs.File.{File}
use Rattle.graph_core.specs.Metadata.{Graph}
use Rattle.graph_core.specs.selection.Choice.{is_unsupported}
use Rattle.graph_workspace.specs.Krates.{graph_in}
use Rattle.graph_workspace.specs.declared.error.KratesError.{KratesError}
use Rattle.graph_workspace.specs.declared.error.KratesError.TheVariants as krates
use Rattle.spdx_terms.specs.catalog.Catalog.{CatalogLists}
use Rattle.spdx_own_names.specs.File.{first_fault, lines_of, lists_of}
use Rattle.spdx_own_names.specs.Folder.{StoreHeard, store_answered}
use Rattle.policy_core.specs.config.Root.{root_of}
use Rattle.policy_core.specs.declared.config.root.RootConfig.{RootConfig}
use Rattle.policy_core.specs.declared.exceptions.ExceptionsHeard.{ExceptionsHeard}
use Rattle.policy_core.specs.Policy.{PolicyFound}
use Rattle.policy_load.specs.Heard.{LoadHeard, exceptions_heard}
use Rattle.policy_load.specs.Load.{load_by_config, load_by_text, load_of, with_policy}
use Rattle.policy_load.specs.declared.loading.PolicyPaths.{PolicyPaths}
use Rattle.policy_core.specs.text.Config.{IsOfText, config_of_text, if_carried, or_shape, or_syntax, then_config}
use Rattle.policy_core.specs.text.Text.{config_text_of}
use Rattle.policy_core.specs.declared.text.error.ConfigError.{ConfigError}
use Rattle.policy_core.specs.declared.text.error.ConfigError.TheVariants as config
use Rattle.policy_core.specs.declared.text.text.ConfigText.{ConfigText}
use Rattle.toml_subset.specs.shapes.Shaped.{ShapeReading}
use Rattle.toml_subset.specs.Answer.{TomlReading}
use Rattle.toml_subset.specs.Data.{Toml}
use Rattle.toml_subset.specs.Reading.{read_text}
use Rattle.run_overrides.specs.Twice.{Twice, first_twice}
use Rattle.run_found.specs.declared.error.Error.{Error}
use Rattle.run_found.specs.declared.error.Error.TheVariants.{ConfigRead}
use Rattle.policy_load.specs.declared.error.LoadError.TheVariants as load
use Rattle.run_found.specs.Found.{PolicyAndGraph, config_by, config_in, exceptions_in, graph_heard, load_heard, metadata_heard, or_krates_error, or_load_error, path_by, paths_found, policy_found}
use Rattle.run_found.specs.Given.{RequestArguments}
use Rattle.run_found.specs.Hearing.{LooksResult, look_failed, nowhere, at, unended, RequestHearing, TreeSeen}
use Rattle.run_found.specs.Steps.{◌>>=◌}
use Rattle.run_found.specs.Written.{SinkSeen}
use Rattle.run_found.specs.own_names.Found.{AnswersHeard}
use Rattle.run_found.specs.own_names.Given.{ListsAsked, ListsGiven, TextsGiven}
use Rattle.run_found.specs.own_names.Heard.{ListsHearing, catalog_by, catalog_told, count_catalog, given_by, given_heard, lists_calls, lists_heard, texts_by, texts_heard, texts_told}
use Rattle.run_command.specs.Found.{input_of, policy_asked, unless_twice}
use Rattle.run_command.specs.Given.{CommandArguments, CommandRequest, command_by, handed_in}
use Rattle.run_command.specs.Prelude.{ComesTo, RunsBy, came, from_there, lists_had, no_lists, no_manifest, stopped, unsupported}
use Rattle.run_command.specs.Stops.{Refuses, Stops}
use Rattle.run_command.proofs.ManifestLemmas.{look_apart}

-- no such refusal
abbrev pub IsNeverAbsent : {X : Type 0} → Result X Error → Type 0
IsNeverAbsent {X} answer = answer ≡ Err (ConfigRead Absent) → ⊥

bind_never : {X Y : Type 0} (first : Result X Error) (next : X → Result Y Error) → IsNeverAbsent first → ((value : X) → IsNeverAbsent (next value)) → IsNeverAbsent (first >>= next)
bind_never {X} {Y} (Ok value) next one behind = behind value
bind_never {X} {Y} (Err own) next one behind = λ e. one (as_first e)
  where
    as_first : ◌≡◌ {A = Result Y Error} (Err own) (Err (ConfigRead Absent)) → ◌≡◌ {A = Result X Error} (Err own) (Err (ConfigRead Absent))
    as_first e = cc

ok_never : {X : Type 0} (value : X) → IsNeverAbsent (Ok value)
ok_never {X} value e = absurd (cc)

-- ---- the looks

path_never : (begun after : ℕ) (look : LooksResult) → IsNeverAbsent (path_by begun after look)
path_never begun after look_failed e = absurd (cc)
path_never begun after nowhere e = absurd (cc)
path_never begun after (at path) e = absurd (cc)
path_never begun after unended e = absurd (cc)

config_never : (cwd : List ℕ) (path : Option (List ℕ)) (found : Result (Option (List ℕ)) Error) → IsNeverAbsent found → IsNeverAbsent (config_by cwd path found)
config_never cwd (Some path) found never e = absurd (cc)
config_never cwd None found never e = never e

-- ---- the policy's text

abbrev IsRefusedByText : {X : Type 0} → Result X ConfigError → Type 0
IsRefusedByText {X} (Ok value) = Unit {0}
IsRefusedByText {X} (Err error) = IsOfText error

carried_by : (test : Bool) (root : RootConfig) → IsRefusedByText (if test then Err config.NotCarried else Ok root)
carried_by true root = tt
carried_by false root = tt

shaped_by : (shaped : ShapeReading RootConfig) → IsRefusedByText (then_config if_carried (or_shape shaped))
shaped_by (Ok root) = carried_by (list_any is_unsupported root.graph.exclude) root
shaped_by (Err faults) = tt

text_by : (lists : CatalogLists) (value : TomlReading Toml) → IsRefusedByText (then_config (λ one. then_config if_carried (or_shape (root_of lists one))) (or_syntax value))
text_by lists (Ok value) = shaped_by (root_of lists value)
text_by lists (Err fault) = tt

-- ---- the load

unless_never : (test : Bool) (found : PolicyFound) → IsNeverAbsent (or_load_error (if test then Err (load.ConfigInvalid found.findings) else Ok found))
unless_never true found e = absurd (cc)
unless_never false found e = absurd (cc)

module _ (lists : CatalogLists) (old : List File) (paths : PolicyPaths) where
  by_config : (exceptions : ExceptionsHeard) (text : ConfigText) (answer : Result RootConfig ConfigError) → IsRefusedByText answer → IsNeverAbsent (or_load_error (load_by_config lists old paths exceptions text answer).answer)
  by_config exceptions text (Ok root) of_text = unless_never _ _
  by_config exceptions text (Err config.Memory) of_text = λ e. absurd (cc)
  by_config exceptions text (Err (config.ConfigRead fault)) of_text = absurd of_text
  by_config exceptions text (Err (config.ConfigSyntax fault)) of_text = λ e. absurd (cc)
  by_config exceptions text (Err (config.ConfigShape faults)) of_text = λ e. absurd (cc)
  by_config exceptions text (Err config.NotCarried) of_text = λ e. absurd (cc)

  at_text : (exceptions : Result (List ℕ) ReadFault) (text : ConfigText) → IsNeverAbsent (or_load_error (load_by_text lists old paths exceptions (Ok text)).answer)
  at_text exceptions text =
      by_config (exceptions_heard (with_policy old paths text) paths.exceptions exceptions) text (config_of_text lists text.text) (text_by lists (read_text text.text))

  by_text : (exceptions : Result (List ℕ) ReadFault) (policy : Result (List ℕ) ReadFault) → IsNeverAbsent (or_load_error (load_by_text lists old paths exceptions (config_text_of policy)).answer)
  by_text exceptions (Ok text) = at_text exceptions (record { text = text; is_there = true })
  by_text exceptions (Err Absent) = at_text exceptions (record { text = []; is_there = false })
  by_text exceptions (Err (Failed before after)) = λ e. absurd (cc)
  by_text exceptions (Err Folder) = λ e. absurd (cc)
  by_text exceptions (Err (NotUtf8 place)) = λ e. absurd (cc)

-- ---- the policy, the levels, the graph

paths_never : (given : RequestArguments) (hearing : RequestHearing) → IsNeverAbsent (paths_found given hearing)
paths_never given hearing =
    bind_never (config_in given hearing) _ (config_never given.context.cwd given.context.config_path _ (path_never _ _ _))
    (λ policy. bind_never (exceptions_in given hearing) _ (path_never _ _ _) (λ exceptions. ok_never _))

loaded_never : (lists : CatalogLists) (heard : LoadHeard) (paths : Result PolicyPaths Error) → IsNeverAbsent paths
    → IsNeverAbsent ((paths >>= λ own. Ok (load_of lists [] own heard)) >>= λ loaded. or_load_error loaded.answer)
loaded_never lists heard (Ok own) never = by_text lists [] own heard.exceptions heard.policy
loaded_never lists heard (Err error) never = λ e. never (as_paths e)
  where
    as_paths : ◌≡◌ {A = Result PolicyFound Error} (Err error) (Err (ConfigRead Absent)) → ◌≡◌ {A = Result PolicyPaths Error} (Err error) (Err (ConfigRead Absent))
    as_paths e = cc

policy_never : (given : RequestArguments) (hearing : RequestHearing) → IsNeverAbsent (policy_found given hearing)
policy_never given hearing = loaded_never given.lists (load_heard given hearing) (paths_found given hearing) (paths_never given hearing)

twice_never : (twice : Option Twice) → IsNeverAbsent (unless_twice twice)
twice_never None e = absurd (cc)
twice_never (Some twice) e = absurd (cc)

graph_never : (graph : Result Graph KratesError) → IsNeverAbsent (or_krates_error graph)
graph_never (Ok graph) e = absurd (cc)
graph_never (Err krates.Memory) e = absurd (cc)
graph_never (Err (krates.NotCarried what)) e = absurd (cc)
graph_never (Err (krates.MetadataRead fault)) e = absurd (cc)
graph_never (Err krates.MetadataSyntax) e = absurd (cc)
graph_never (Err (krates.MetadataShape fault)) e = absurd (cc)
graph_never (Err (krates.NoRoots base excluded unpublished)) e = absurd (cc)

input_never : (given : CommandArguments) (hearing : RequestHearing) → IsNeverAbsent (input_of given hearing)
input_never given hearing =
    bind_never (policy_asked given hearing) _
    (bind_never (policy_found given.request hearing) _ (policy_never given.request hearing)
    (λ policy. bind_never (unless_twice (first_twice given.options.levels)) _ (twice_never (first_twice given.options.levels)) (λ once. ok_never policy)))
    (λ policy. bind_never (graph_heard (metadata_heard given.request hearing)) _ (graph_never (graph_in (metadata_heard given.request hearing))) (λ graph. ok_never _))

-- ---- a command

pub stops_never : (given : CommandArguments) (tree : TreeSeen) (err : SinkSeen) → Stops given tree err (ConfigRead Absent) → ⊥
stops_never given tree err stops = by_found (input_of given stops.hearing) refl stops.refused.1.refused
  where
    as_refusal : {own : Error} → own ≡ ConfigRead Absent → ◌≡◌ {A = Result PolicyAndGraph Error} (Err own) (Err (ConfigRead Absent))
    as_refusal is = cc

    by_found : (found : Result PolicyAndGraph Error) → input_of given stops.hearing ≡ found → Refuses given found (ConfigRead Absent) → ⊥
    by_found (Ok own) is refused = refused
    by_found (Err own) is refused = input_never given stops.hearing (is ∙ as_refusal refused)

-- ---- what comes before it

some_never : {X : Type 0} (value : X) → ◌≡◌ {A = Option (Result X Error)} (Some (Ok value)) (Some (Err (ConfigRead Absent))) → ⊥
some_never {X} value e = absurd (cc)

told_never : (line : Option ℕ) (lists : CatalogLists) → ◌≡◌ {A = Option (Result CatalogLists Error)} (Some (catalog_told line lists)) (Some (Err (ConfigRead Absent))) → ⊥
told_never None lists e = absurd (cc)
told_never (Some line) lists e = absurd (cc)

catalog_never : (given : CatalogLists) (path : Option (List ℕ)) (begun after : ℕ) (answer : Option CallAnswer) → catalog_by given path begun after answer ≡ Some (Err (ConfigRead Absent)) → ⊥
catalog_never given None begun after answer e = absurd (cc)
catalog_never given (Some path) begun after None e = absurd (cc)
catalog_never given (Some path) begun after (Some (call.bytes items)) e = told_never (first_fault items) (lists_of (lines_of items)) e
catalog_never given (Some path) begun after (Some (call.entries items)) e = absurd (cc)
catalog_never given (Some path) begun after (Some (call.told answer)) e = absurd (cc)
catalog_never given (Some path) begun after (Some call.absent) e = absurd (cc)
catalog_never given (Some path) begun after (Some call.wrong_kind) e = absurd (cc)
catalog_never given (Some path) begun after (Some call.failed) e = absurd (cc)
catalog_never given (Some path) begun after (Some call.no_memory) e = absurd (cc)

heard_never : (heard : Option StoreHeard) → texts_told heard ≡ Some (Err (ConfigRead Absent)) → ⊥
heard_never None e = absurd (cc)
heard_never (Some (Ok texts)) e = absurd (cc)
heard_never (Some (Err own)) e = absurd (cc)

texts_never : (given : TextsGiven) (path : Option (List ℕ)) (begun after : ℕ) (listing : Option CallAnswer) (reads : List CallAnswer) → texts_by given path begun after listing reads ≡ Some (Err (ConfigRead Absent)) → ⊥
texts_never given None begun after listing reads e = absurd (cc)
texts_never given (Some path) begun after None reads e = absurd (cc)
texts_never given (Some path) begun after (Some answer) reads e = heard_never (store_answered begun after answer reads) e

lists_never : (given : ListsGiven) (asked : ListsAsked) (hearing : ListsHearing) → given_heard given asked hearing ≡ Some (Err (ConfigRead Absent)) → ⊥
lists_never given asked hearing is = by_lists (lists_heard given asked hearing) (texts_heard given asked hearing) refl refl is
  where
    as_lists : {own : Error} → ◌≡◌ {A = Option (Result ListsGiven Error)} (Some (Err own)) (Some (Err (ConfigRead Absent))) → ◌≡◌ {A = Option (Result CatalogLists Error)} (Some (Err own)) (Some (Err (ConfigRead Absent)))
    as_lists e = cc

    as_texts : {own : Error} → ◌≡◌ {A = Option (Result ListsGiven Error)} (Some (Err own)) (Some (Err (ConfigRead Absent))) → ◌≡◌ {A = Option (Result (TextsGiven) Error)} (Some (Err own)) (Some (Err (ConfigRead Absent)))
    as_texts e = cc

    by_lists : (heard : Option (Result CatalogLists Error)) (texts : Option (Result (TextsGiven) Error)) → lists_heard given asked hearing ≡ heard → texts_heard given asked hearing ≡ texts
        → given_by heard texts ≡ Some (Err (ConfigRead Absent)) → ⊥
    by_lists None texts one two both = absurd (cc)
    by_lists (Some (Err own)) texts one two both = catalog_never given.lists asked.catalog hearing.begun (count_catalog asked hearing) hearing.catalog (one ∙ as_lists both)
    by_lists (Some (Ok lists)) None one two both = absurd (cc)
    by_lists (Some (Ok lists)) (Some (Ok found)) one two both = absurd (cc)
    by_lists (Some (Ok lists)) (Some (Err own)) one two both =
        texts_never given.texts asked.store (count_catalog asked hearing) (faults_after hearing.begun (lists_calls given asked hearing)) hearing.listing hearing.texts (two ∙ as_texts both)

same_error : {X : Type 0} {error own : Error} → ◌≡◌ {A = Result X Error} (Err error) (Err own) → own ≡ error
same_error e = cc

comes_never : (given : CommandRequest) (tree : TreeSeen) → ComesTo given tree (Err (ConfigRead Absent)) → ⊥
comes_never given tree (unsupported what is same untouched) = absurd (cc)
comes_never given tree (no_manifest carried own looked same) = look_apart given.command.request.context.manifest_path tree own looked (same_error same)
comes_never given tree (no_lists carried told count calls looked own finds same) =
    lists_never (handed_in given) given.own finds.hearing (subst (λ error. AnswersHeard (given_heard (handed_in given) given.own finds.hearing) (Err error)) (same_error same) finds.answers)
comes_never given tree (lists_had carried told count calls looked own finds same) = absurd (cc)

-- ---- a run

pub runs_never : {X : Type 0} (given : CommandRequest) (IsDone : ListsGiven → CommandArguments → TreeSeen → Result X Error → Type 0) (tree : TreeSeen) (err out : SinkSeen)
    → ((lists : ListsGiven) (own : CommandArguments) (rest : TreeSeen) → IsDone lists own rest (Err (ConfigRead Absent)) → ⊥) → RunsBy given IsDone tree err out (Err (ConfigRead Absent)) → ⊥
runs_never {X} given IsDone tree err out never (stopped error comes same silent silent_out) = comes_never given tree (subst (λ own. ComesTo given tree (Err own)) (same_error same) comes)
runs_never {X} given IsDone tree err out never (came told count calls lists comes is_done) = never lists (command_by given.command lists) (from_there tree told count calls) is_done
