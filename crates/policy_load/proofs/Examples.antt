-- The calls of a load behind the policy's read, worked out by hand from the rules.
use Rattle.std.proofs.Common.{◌≡◌, ℕ, List, [], ◌∷◌, ◌++◌, codes, Some, None, Result, Ok, Err, refl}
use Rattle.std.specs.Path.{path_components, path_names}
use Rattle.spdx_terms.specs.catalog.Catalog.{CatalogLists}
use Rattle.tree_core.specs.Call.{CallAnswer, Call, absent, bytes, failed}
use Rattle.tree_core.specs.Content.{file}
use Rattle.tree_core.specs.texts.Heard.{heard_of, read_of}
use Rattle.tree_core.specs.declared.texts.fault.ReadFault.{ReadFault}
use Rattle.tree_core.specs.declared.texts.fault.ReadFault.TheVariants.{Absent, Failed}
use Rattle.policy_core.specs.text.Text.{config_text_of}
use Rattle.policy_load.specs.Answer.{ReadsBehind}
use Rattle.policy_load.specs.declared.loading.PolicyPaths.{PolicyPaths}

abbrev lists : CatalogLists
lists = record { licenses = []; exceptions = []; imprecise = [] }

abbrev both : PolicyPaths
both = record { policy = Some (codes "/p"); exceptions = Some (codes "/e") }

-- what is read behind this of the policy's file, where this is read of the exceptions file
abbrev Behind : PolicyPaths → Result (List ℕ) ReadFault → Result (List ℕ) ReadFault → List Call → List Call → Type 0
Behind paths policy exceptions calls more = ReadsBehind lists [] paths 0 1 calls more exceptions (config_text_of policy)

module _ (calls more : List Call) (exceptions : Result (List ℕ) ReadFault) where
  -- a policy that was not read, one without a value, and one of another shape: nothing more is read
  unread : Behind both (Err (Failed 0 1)) exceptions calls more → more ≡ calls
  unread reads = reads

  no_value : Behind both (Ok (codes "=")) exceptions calls more → more ≡ calls
  no_value reads = reads

  of_another_shape : Behind both (Ok (codes "a=1")) exceptions calls more → more ≡ calls
  of_another_shape reads = reads

  -- an absent policy, and an empty one: the exceptions file is read, and nothing else
  absent_policy : Behind both (Err Absent) exceptions calls more → (answer : CallAnswer) × (more ≡ calls ++ read_of (codes "/e") answer ∷ [])
  unfolding path_components path_names
  absent_policy reads = (reads.2.answer, reads.2.made)

  empty_policy : Behind both (Ok []) exceptions calls more → (answer : CallAnswer) × (more ≡ calls ++ read_of (codes "/e") answer ∷ [])
  unfolding path_components path_names
  empty_policy reads = (reads.2.answer, reads.2.made)

  -- no path, and the policy's own path, by other signs: nothing more is read
  no_path : Behind (record { policy = Some (codes "/p"); exceptions = None }) (Ok []) exceptions calls more → more ≡ calls
  no_path reads = reads.1

  own_path : Behind (record { policy = Some (codes "/p"); exceptions = Some (codes "/./p") }) (Ok []) exceptions calls more → more ≡ calls
  unfolding path_components path_names
  own_path reads = reads.1

-- by the answer of that read its bytes are read, that nothing is there, or that it failed
bytes_heard : (calls : List Call) (items : List ℕ) → Behind both (Ok []) (heard_of (Some (file items))) calls (calls ++ read_of (codes "/e") (bytes items) ∷ [])
unfolding path_components path_names
bytes_heard calls items = (heard_of (Some (file items)), refl, record { answer = bytes items; made = refl; hears = refl })

absence_heard : (calls : List Call) → Behind both (Ok []) (Err Absent) calls (calls ++ read_of (codes "/e") absent ∷ [])
unfolding path_components path_names
absence_heard calls = (Err Absent, refl, record { answer = absent; made = refl; hears = refl })

failure_heard : (calls : List Call) → Behind both (Ok []) (Err (Failed 0 1)) calls (calls ++ read_of (codes "/e") failed ∷ [])
unfolding path_components path_names
failure_heard calls = (Err (Failed 0 1), refl, record { answer = failed; made = refl; hears = refl })
