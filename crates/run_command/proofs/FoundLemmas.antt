-- What a command finds, step by step: the policy, the levels, the metadata; and which calls that takes.
use Rattle.std.proofs.Common.{◌≡◌, ◌∙◌, ap, [], ◌++◌, append-nil, Option, Some, None, Result, Ok, Err}
use Rattle.tree_core.specs.Trace.{faults_after}
use Rattle.tree_core.proofs.MadeLemmas.{faults_after-append}
use Rattle.graph_core.specs.Metadata.{Graph}
use Rattle.policy_core.specs.Policy.{PolicyFound}
use Rattle.gather_core.specs.Calls.{calls_of_all}
use Rattle.run_overrides.specs.Twice.{Twice, first_twice}
use Rattle.run_found.specs.declared.error.Error.{Error}
use Rattle.run_found.specs.declared.error.Error.TheVariants.{OverrideTwice}
use Rattle.run_found.specs.Found.{count_exceptions, count_metadata, graph_heard, metadata_heard, policy_calls, policy_found}
use Rattle.run_found.specs.Hearing.{RequestHearing, read_calls}
use Rattle.run_found.specs.Steps.{◌>>=◌}
use Rattle.run_found.proofs.ByteLemmas.{found_by_bytes, graph_by_bytes}
use Rattle.run_found.proofs.CallLemmas.{counts_due, no_read}
use Rattle.run_found.proofs.FoundLemmas.{bind-Err, bind-Ok, count-behind}
use Rattle.run_command.specs.Found.{HearsAllDue, calls_of, input_of, metadata_by, metadata_due, policy_asked, unless_twice}
use Rattle.run_command.specs.Given.{CommandArguments}
use Rattle.run_command.specs.Stops.{Asks, PolicyAndCrates}

module _ (given : CommandArguments) (hearing : RequestHearing) where
  -- where neither metadata nor crates were read
  pub calls-unread : hearing.metadata ≡ None → hearing.crates ≡ [] → calls_of given hearing ≡ policy_calls given.request hearing
  calls-unread unread none =
      let before = policy_calls given.request hearing in
      ap (λ own. before ++ own ++ calls_of_all hearing.crates) (ap (read_calls (metadata_due given hearing)) unread ∙ no_read (metadata_due given hearing))
      ∙ ap (λ own. before ++ [] ++ calls_of_all own) none
      ∙ append-nil (before ++ [])
      ∙ append-nil before

  -- the policy was refused
  pub asked-refused : (error : Error) → policy_found given.request hearing ≡ Err error → policy_asked given hearing ≡ Err error
  asked-refused error refused = bind-Err (policy_found given.request hearing) _ error refused

  -- it was found
  module _ (policy : PolicyFound) (found : policy_found given.request hearing ≡ Ok policy) where
    asked-by : (twice : Option Twice) → first_twice given.options.levels ≡ twice → policy_asked given hearing ≡ (unless_twice twice >>= λ once. Ok policy)
    asked-by twice is = bind-Ok (policy_found given.request hearing) _ policy _ found (ap (λ own. unless_twice own >>= λ once. Ok policy) is)

    -- a code or a level is there twice
    pub asked-twice : (twice : Twice) → first_twice given.options.levels ≡ Some twice → policy_asked given hearing ≡ Err (OverrideTwice twice.name twice.first twice.second)
    asked-twice twice is = asked-by (Some twice) is

    -- none does
    pub asked-once : first_twice given.options.levels ≡ None → policy_asked given hearing ≡ Ok policy
    asked-once is = asked-by None is

  -- no policy to go by
  module _ (error : Error) (refused : policy_asked given hearing ≡ Err error) where
    pub input-refused : input_of given hearing ≡ Err error
    input-refused = bind-Err (policy_asked given hearing) _ error refused

    pub metadata-refused : metadata_due given hearing ≡ None
    metadata-refused = ap (metadata_by given) refused

  -- a policy to go by
  module _ (policy : PolicyFound) (is : policy_asked given hearing ≡ Ok policy) where
    pub metadata-is : metadata_due given hearing ≡ given.request.context.metadata_path
    metadata-is = ap (metadata_by given) is

    pub input-graph : (last : Result Graph Error) → graph_heard (metadata_heard given.request hearing) ≡ last
        → input_of given hearing ≡ (last >>= λ graph. Ok (record { policy = policy; graph = graph }))
    input-graph last tells =
        bind-Ok (policy_asked given hearing) _ policy _ is (ap (λ one. one >>= λ graph. Ok (record { policy = policy; graph = graph })) tells)

-- lawful input is found
pub input_by_Asks : (given : CommandArguments) (hearing : RequestHearing) (asked : PolicyAndCrates) → Asks given hearing asked
    → input_of given hearing ≡ Ok (record { policy = asked.policy; graph = asked.graph })
input_by_Asks given hearing asked asks =
    input-graph given hearing asked.policy
    (asked-once given hearing asked.policy (found_by_bytes given.request hearing asked.policy asks.policy) asks.once) (Ok asked.graph)
    (graph_by_bytes given.request hearing asked.graph asks.metadata)

-- the count behind the metadata's read
pub count_is : (given : CommandArguments) (hearing : RequestHearing) → HearsAllDue given hearing
    → faults_after hearing.begun (policy_calls given.request hearing ++ read_calls (metadata_due given hearing) hearing.metadata) ≡ count_metadata given.request hearing
count_is given hearing due =
    let metadata = read_calls (metadata_due given hearing) hearing.metadata in
    faults_after-append hearing.begun (policy_calls given.request hearing) metadata
    ∙ ap (λ n. faults_after n metadata) (count-behind given.request hearing due.policy)
    ∙ counts_due (metadata_due given hearing) hearing.metadata (count_exceptions given.request hearing) due.metadata
