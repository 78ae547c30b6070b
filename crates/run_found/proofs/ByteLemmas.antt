-- A policy is found exactly where the bytes of its files are one, and a graph where those of the metadata tell of it.
use Rattle.std.proofs.Common.{◌≡◌, ◌∙◌, refl, sym, ap, List, ℕ, Option, Some, None, Result, Ok, Err}
use Rattle.graph_core.specs.Metadata.{Graph}
use Rattle.graph_metadata.specs.Records.{metadata_of}
use Rattle.graph_metadata.specs.Told.{MetadataReading}
use Rattle.graph_workspace.specs.Krates.{graph_or_error, sparse_dir}
use Rattle.tree_core.specs.declared.texts.fault.ReadFault.{ReadFault}
use Rattle.policy_core.specs.Policy.{PolicyFound}
use Rattle.policy_load.specs.Load.{LoadResult}
use Rattle.policy_load.specs.declared.error.LoadError.{LoadError}
use Rattle.run_found.specs.declared.error.Error.{Error}
use Rattle.run_found.specs.Found.{config_in, exceptions_in, graph_heard, load_at, load_heard, loaded_of, metadata_heard, or_krates_error, or_load_error, policy_found}
use Rattle.run_found.specs.Given.{RequestArguments}
use Rattle.run_found.specs.Hearing.{RequestHearing}
use Rattle.run_found.specs.Policy.{GraphAt, PolicyAt}
use Rattle.run_found.proofs.FoundLemmas.{bind-Ok, found-policy, loaded-is, paths-are, paths-config, paths-exceptions, paths_at, policy-refused}
use Rattle.run_found.proofs.PolicyLemmas.{load_is, policy_is}

-- ---- the policy

-- the policy of the bytes is found
pub found_by_bytes : (given : RequestArguments) (hearing : RequestHearing) (policy : PolicyFound) → PolicyAt given hearing policy → policy_found given hearing ≡ Ok policy
found_by_bytes given hearing policy at =
    let paths = paths_at at.config at.exceptions in
    found-policy given hearing paths (paths-are given hearing at.config at.config_found at.exceptions at.exceptions_found) policy
    (load_is given.lists paths (load_heard given hearing) policy at.is)

load_Ok : (answer : Result PolicyFound LoadError) (policy : PolicyFound) → or_load_error answer ≡ Ok policy → answer ≡ Ok policy
load_Ok (Ok found) policy e = cc
load_Ok (Err error) policy e = absurd (cc)

refused_apart : (found : Result PolicyFound Error) (error : Error) (policy : PolicyFound) → found ≡ Err error → found ≡ Ok policy → ⊥
refused_apart found error policy one other = absurd (cc)

module _ (given : RequestArguments) (hearing : RequestHearing) (policy : PolicyFound) (is : policy_found given hearing ≡ Ok policy) where
  bytes_by : (config exceptions : Result (Option (List ℕ)) Error) → config_in given hearing ≡ config → exceptions_in given hearing ≡ exceptions → PolicyAt given hearing policy
  bytes_by (Err error) exceptions one other =
      absurd (refused_apart (policy_found given hearing) error policy (policy-refused given hearing error (paths-config given hearing error one)) is)
  bytes_by (Ok config) (Err error) one other =
      absurd (refused_apart (policy_found given hearing) error policy (policy-refused given hearing error (paths-exceptions given hearing config one error other)) is)
  bytes_by (Ok config) (Ok exceptions) one other =
      let paths = paths_at config exceptions in
      let loaded = loaded-is given hearing paths (paths-are given hearing config one exceptions other) in
      let answered : or_load_error (load_at given hearing paths).answer ≡ Ok policy =
      sym (bind-Ok (loaded_of given hearing) (λ (one : LoadResult). or_load_error one.answer) (load_at given hearing paths) (or_load_error (load_at given hearing paths).answer) loaded refl) ∙ is in
      record {
        config = config;
        config_found = one;
        exceptions = exceptions;
        exceptions_found = other;
        is = policy_is given.lists paths (load_heard given hearing) policy (load_Ok (load_at given hearing paths).answer policy answered);
      }

  -- a policy that is found is that of the bytes
  pub bytes_of_found : PolicyAt given hearing policy
  bytes_of_found = bytes_by (config_in given hearing) (exceptions_in given hearing) refl refl

-- ---- the graph

told-Ok : (told : Option (MetadataReading Graph)) (graph : Graph) → or_krates_error (graph_or_error told) ≡ Ok graph → told ≡ Some (Ok graph)
told-Ok None graph e = absurd (cc)
told-Ok (Some (Err fault)) graph e = absurd (cc)
told-Ok (Some (Ok one)) graph e = cc

graph_heard-Ok : (heard : Result (List ℕ) ReadFault) (graph : Graph) → graph_heard heard ≡ Ok graph → (text : List ℕ) × (heard ≡ Ok text) × (metadata_of text sparse_dir ≡ Some (Ok graph))
graph_heard-Ok (Ok text) graph e = (text, refl, told-Ok (metadata_of text sparse_dir) graph e)
graph_heard-Ok (Err fault) graph e = absurd (cc)

-- a graph that is read is that of the bytes
pub bytes_of_graph : (given : RequestArguments) (hearing : RequestHearing) (graph : Graph) → graph_heard (metadata_heard given hearing) ≡ Ok graph → GraphAt given hearing graph
bytes_of_graph given hearing graph e =
    let (text, heard, tells) = graph_heard-Ok (metadata_heard given hearing) graph e in
    record { text = text; heard = heard; tells = tells }

-- the graph of the bytes is read
pub graph_by_bytes : (given : RequestArguments) (hearing : RequestHearing) (graph : Graph) → GraphAt given hearing graph → graph_heard (metadata_heard given hearing) ≡ Ok graph
graph_by_bytes given hearing graph at = ap graph_heard at.heard ∙ ap (λ one. or_krates_error (graph_or_error one)) at.tells
