-- What is found of a policy, stage by stage: the two searches, and the load.
use Rattle.std.proofs.Common.{◌≡◌, ◌∙◌, refl, ap, ℕ, true, cond, List, [], ◌++◌, Option, Some, None, Result, Ok, Err, ◌&&◌}
use Rattle.std.specs.Option.{option_and_then}
use Rattle.tree_core.specs.Call.{CallAnswer}
use Rattle.tree_core.specs.Trace.{faults_after}
use Rattle.tree_core.proofs.MadeLemmas.{faults_after-append}
use Rattle.policy_core.specs.Policy.{PolicyFound}
use Rattle.policy_core.specs.text.Text.{config_text_of}
use Rattle.policy_load.specs.declared.error.LoadError.{LoadError}
use Rattle.policy_load.specs.declared.loading.PolicyPaths.{PolicyPaths}
use Rattle.run_found.specs.declared.error.Error.{Error}
use Rattle.run_found.specs.Error.{error_of_load}
use Rattle.run_found.specs.Finds.{HearsPolicy}
use Rattle.run_found.specs.Found.{config_in, count_exceptions, count_looked, count_policy, due_by_text, exceptions_due, exceptions_in, files_loaded, files_of_load, load_at, load_heard, load_text, load_told, loaded_of, looked_behind, or_load_error, paths_found, paths_looked, paths_sought, policy_calls, policy_due, policy_found}
use Rattle.run_found.specs.Given.{RequestArguments}
use Rattle.run_found.specs.Hearing.{LooksResult, look_failed, nowhere, at, unended, IsReadWhereDue, RequestHearing, is_ended, is_read_where_due, look_calls, looks_by, read_calls}
use Rattle.run_found.specs.Steps.{◌>>=◌, unless_refused}
use Rattle.tree_core.specs.texts.Search.{candidates}
use Rattle.tree_core.specs.declared.texts.search.SoughtFile.TheVariants.{Exceptions}
use Rattle.run_found.proofs.CallLemmas.{counts_due}

pub bind-Ok : {X Y : Type 0} (first : Result X Error) (next : X → Result Y Error) (x : X) (last : Result Y Error) → first ≡ Ok x → next x ≡ last → (first >>= next) ≡ last
bind-Ok first next x last e f = ap (λ one. one >>= next) e ∙ f

pub bind-Err : {X Y : Type 0} (first : Result X Error) (next : X → Result Y Error) (error : Error) → first ≡ Err error → (first >>= next) ≡ Err error
bind-Err first next error e = ap (λ one. one >>= next) e

-- the paths of the two files
abbrev pub paths_at : Option (List ℕ) → Option (List ℕ) → PolicyPaths
paths_at config exceptions = record { policy = config; exceptions = exceptions }

module _ (given : RequestArguments) (hearing : RequestHearing) where
  -- the search for a policy was refused
  module _ (error : Error) (refused : config_in given hearing ≡ Err error) where
    pub looked-none : paths_looked given hearing ≡ []
    looked-none = ap (looked_behind given.context.manifest_path) refused

    pub paths-config : paths_found given hearing ≡ Err error
    paths-config = bind-Err (config_in given hearing) _ error refused

  -- a policy's path was found, or none
  module _ (config : Option (List ℕ)) (config_is : config_in given hearing ≡ Ok config) where
    pub looked-at : paths_looked given hearing ≡ candidates Exceptions given.context.manifest_path
    looked-at = ap (looked_behind given.context.manifest_path) config_is

    -- the search for an exceptions file was refused
    pub paths-exceptions : (error : Error) → exceptions_in given hearing ≡ Err error → paths_found given hearing ≡ Err error
    paths-exceptions error refused =
        bind-Ok (config_in given hearing) _ config _ config_is (bind-Err (exceptions_in given hearing) _ error refused)

    pub paths-are : (exceptions : Option (List ℕ)) → exceptions_in given hearing ≡ Ok exceptions → paths_found given hearing ≡ Ok (paths_at config exceptions)
    paths-are exceptions found =
        bind-Ok (config_in given hearing) _ config _ config_is (bind-Ok (exceptions_in given hearing) _ exceptions _ found refl)

  -- the paths were refused
  module _ (error : Error) (refused : paths_found given hearing ≡ Err error) where
    pub loaded-refused : loaded_of given hearing ≡ Err error
    loaded-refused = bind-Err (paths_found given hearing) _ error refused

    pub policy-refused : policy_found given hearing ≡ Err error
    policy-refused = bind-Err (loaded_of given hearing) _ error loaded-refused

    pub due-refused : policy_due given hearing ≡ None
    due-refused = ap (λ found. option_and_then (λ (paths : PolicyPaths). paths.policy) (unless_refused found)) refused

    pub exceptions-refused : exceptions_due given hearing ≡ None
    exceptions-refused = ap (λ found. option_and_then (λ paths. due_by_text given.lists paths (config_text_of (load_heard given hearing).policy)) (unless_refused found)) refused

  -- these are the paths
  module _ (paths : PolicyPaths) (are : paths_found given hearing ≡ Ok paths) where
    pub loaded-is : loaded_of given hearing ≡ Ok (load_at given hearing paths)
    loaded-is = bind-Ok (paths_found given hearing) _ paths _ are refl

    pub policy-is : policy_due given hearing ≡ paths.policy
    policy-is = ap (λ found. option_and_then (λ (own : PolicyPaths). own.policy) (unless_refused found)) are

    pub exceptions-is : exceptions_due given hearing ≡ due_by_text given.lists paths (config_text_of (load_heard given hearing).policy)
    exceptions-is = ap (λ found. option_and_then (λ own. due_by_text given.lists own (config_text_of (load_heard given hearing).policy)) (unless_refused found)) are

    pub table-is : files_loaded given hearing ≡ (load_at given hearing paths).files
    table-is = ap files_of_load loaded-is

    pub found-refused : (error : LoadError) → (load_at given hearing paths).answer ≡ Err error → policy_found given hearing ≡ Err (error_of_load error)
    found-refused error refused = bind-Ok (loaded_of given hearing) _ (load_at given hearing paths) _ loaded-is (ap or_load_error refused)

    pub found-policy : (policy : PolicyFound) → (load_at given hearing paths).answer ≡ Ok policy → policy_found given hearing ≡ Ok policy
    found-policy policy loads = bind-Ok (loaded_of given hearing) _ (load_at given hearing paths) _ loaded-is (ap or_load_error loads)

  -- the calls, by the looks and reads that are due
  pub calls-due : (looked : List (List ℕ)) (policy exceptions : Option (List ℕ)) → paths_looked given hearing ≡ looked → policy_due given hearing ≡ policy → exceptions_due given hearing ≡ exceptions
      → policy_calls given hearing
      ≡ look_calls (paths_sought given) hearing.sought ++ look_calls looked hearing.looks ++ read_calls policy hearing.policy ++ read_calls exceptions hearing.exceptions
  calls-due looked policy exceptions one two three =
      let sought = look_calls (paths_sought given) hearing.sought in
      ap (λ due. sought ++ look_calls due hearing.looks ++ read_calls (policy_due given hearing) hearing.policy ++ read_calls (exceptions_due given hearing) hearing.exceptions) one
      ∙ ap (λ due. sought ++ look_calls looked hearing.looks ++ read_calls due hearing.policy ++ read_calls (exceptions_due given hearing) hearing.exceptions) two
      ∙ ap (λ due. sought ++ look_calls looked hearing.looks ++ read_calls policy hearing.policy ++ read_calls due hearing.exceptions) three

  -- the count behind them, where each that was due was made
  pub count-behind : HearsPolicy given hearing → faults_after hearing.begun (policy_calls given hearing) ≡ count_exceptions given hearing
  count-behind due =
      let sought = look_calls (paths_sought given) hearing.sought in
      let looks = look_calls (paths_looked given hearing) hearing.looks in
      let policy = read_calls (policy_due given hearing) hearing.policy in
      let exceptions = read_calls (exceptions_due given hearing) hearing.exceptions in
      faults_after-append hearing.begun (sought ++ looks ++ policy) exceptions
      ∙ ap (λ n. faults_after n exceptions)
      (faults_after-append hearing.begun (sought ++ looks) policy
      ∙ ap (λ n. faults_after n policy) (faults_after-append hearing.begun sought looks)
      ∙ counts_due (policy_due given hearing) hearing.policy (count_looked given hearing) due.policy)
      ∙ counts_due (exceptions_due given hearing) hearing.exceptions (count_policy given hearing) due.exceptions

-- ---- what is printed of a load, where all of it was read

ended_true : (came : LooksResult) → (came ≡ unended → ⊥) → is_ended came ≡ true
ended_true look_failed bound = refl
ended_true nowhere bound = refl
ended_true (at path) bound = refl
ended_true unended bound = absurd (bound refl)

read_true : (due : Option (List ℕ)) (answer : Option CallAnswer) → IsReadWhereDue due answer → is_read_where_due due answer ≡ true
read_true None answer is = refl
read_true (Some path) answer is = is

pub told-due : (given : RequestArguments) (hearing : RequestHearing) → HearsPolicy given hearing → load_told given hearing ≡ load_text given.log (loaded_of given hearing)
told-due given hearing due =
    let text = load_text given.log (loaded_of given hearing) in
    let looked = is_ended (looks_by (paths_looked given hearing) hearing.looks) in
    let policy = is_read_where_due (policy_due given hearing) hearing.policy in
    let exceptions = is_read_where_due (exceptions_due given hearing) hearing.exceptions in
    ap (λ b. cond (b && (looked && (policy && exceptions))) text []) (ended_true (looks_by (paths_sought given) hearing.sought) due.looks.sought)
    ∙ ap (λ b. cond (b && (policy && exceptions)) text []) (ended_true (looks_by (paths_looked given hearing) hearing.looks) due.looks.looks)
    ∙ ap (λ b. cond (b && exceptions) text []) (read_true (policy_due given hearing) hearing.policy due.policy)
    ∙ ap (λ b. cond b text []) (read_true (exceptions_due given hearing) hearing.exceptions due.exceptions)
