-- What is at the paths that a check of the sample asks for.
use Rattle.std.proofs.Common.{◌≡◌, ◌∙◌, refl, ap, ℕ, zero, suc, ◌+◌, ◌-◌, ◌≤◌, ◌^◌, List, [], ◌∷◌, get_or, length, take, codes, decimal, Some, None, arith}
use Rattle.std.specs.FinMap as finmap
use Rattle.std.specs.List.{fold, range_with_len}
use Rattle.std.specs.Path.{path_components, path_names}
use Rattle.tree_core.specs.Content.{Content, Place, file, folder, node_at, resolve}
use Rattle.tree_core.specs.TreeState.{root_alone}
use Rattle.tree_core.proofs.PutLemmas.{get-insert_same, get-insert_other}
use Rattle.run_sample.specs.Files.{sample_content, sample_policy, with_file, with_folders, with_manifest, with_texts}
use Rattle.run_sample.specs.Metadata.{sample_metadata}
use Rattle.run_sample.specs.Shallow.{metadata_place, policy_place}
use Rattle.run_sample.proofs.PathLemmas.{resolve_manifest}
use Rattle.run_sample.proofs.ShallowLemmas.{nothing_else}

-- the first byte of the last name; 0 for the root
abbrev pub mark : Place → ℕ
mark place = get_or (get_or place (length place - 1) []) 0 0

-- no mark of a manifest and of the folders that it is in
abbrev pub IsApart : ℕ → Type 0
IsApart m = (m ≡ 0 → ⊥) × (m ≡ 115 → ⊥) × (m ≡ 99 → ⊥) × (m ≡ 67 → ⊥)

-- nor of the metadata and the policy
abbrev pub IsForeign : ℕ → Type 0
IsForeign m = IsApart m × (m ≡ 109 → ⊥) × (m ≡ 112 → ⊥)

abbrev manifest_place : ℕ → Place
manifest_place i = codes "s" ∷ (99 ∷ decimal i) ∷ codes "Cargo.toml" ∷ []

past_manifest : (content : Content) (i : ℕ) (q : Place) → IsApart (mark q) → finmap.get (with_file content (manifest_place i) []) q ≡ finmap.get content q
past_manifest content i q apart =
    let place = manifest_place i in
    get-insert_other (with_folders content place 3) place q (file []) (λ e. apart.3 (ap mark e))
    ∙ get-insert_other (with_folders content place 2) (take 2 place) q folder (λ e. apart.2 (ap mark e))
    ∙ get-insert_other (with_folders content place 1) (take 1 place) q folder (λ e. apart.1 (ap mark e))
    ∙ get-insert_other content [] q folder (λ e. apart.0 (ap mark e))

past_manifests : (content : Content) (a k : ℕ) → a + k ≤ 2 ^ 64 → (q : Place) → IsApart (mark q) → finmap.get (fold with_manifest content (range_with_len a k)) q ≡ finmap.get content q
past_manifests content a zero small q apart = refl
past_manifests content a (suc k) small q apart =
    past_manifests (with_manifest content a) (a + 1) k (omega (arith, small)) q apart
    ∙ ap (λ (place : Place). finmap.get (with_file content place []) q) (resolve_manifest a (omega (arith, small)))
    ∙ past_manifest content a q apart

-- the metadata, and the policy
abbrev with_both : ℕ → Content
with_both n = with_file (with_file root_alone metadata_place (sample_metadata n)) policy_place sample_policy

texts_are : (n : ℕ) → with_texts n ≡ with_both n
unfolding path_components path_names
texts_are n = refl

metadata_in_texts : (n : ℕ) → finmap.get (with_both n) metadata_place ≡ Some (file (sample_metadata n))
metadata_in_texts n =
    let first = with_file root_alone metadata_place (sample_metadata n) in
    get-insert_other (with_folders first policy_place 2) policy_place metadata_place (file sample_policy) (λ e. let bad : 109 ≡ 112 = ap mark e in omega (arith, bad))
    ∙ get-insert_other (with_folders first policy_place 1) (take 1 policy_place) metadata_place folder (λ e. let bad : 109 ≡ 115 = ap mark e in omega (arith, bad))
    ∙ get-insert_other first [] metadata_place folder (λ e. let bad : 109 ≡ 0 = ap mark e in omega (arith, bad))
    ∙ get-insert_same (with_folders root_alone metadata_place 2) metadata_place (file (sample_metadata n))

policy_in_texts : (n : ℕ) → finmap.get (with_both n) policy_place ≡ Some (file sample_policy)
policy_in_texts n = get-insert_same (with_folders (with_file root_alone metadata_place (sample_metadata n)) policy_place 2) policy_place (file sample_policy)

nothing_in_texts : (n : ℕ) (q : Place) → IsForeign (mark q) → finmap.get (with_both n) q ≡ None
nothing_in_texts n q foreign =
    let first = with_file root_alone metadata_place (sample_metadata n) in
    get-insert_other (with_folders first policy_place 2) policy_place q (file sample_policy) (λ e. foreign.2 (ap mark e))
    ∙ get-insert_other (with_folders first policy_place 1) (take 1 policy_place) q folder (λ e. foreign.0.1 (ap mark e))
    ∙ get-insert_other first [] q folder (λ e. foreign.0.0 (ap mark e))
    ∙ get-insert_other (with_folders root_alone metadata_place 2) metadata_place q (file (sample_metadata n)) (λ e. foreign.1 (ap mark e))
    ∙ get-insert_other (with_folders root_alone metadata_place 1) (take 1 metadata_place) q folder (λ e. foreign.0.1 (ap mark e))
    ∙ get-insert_other root_alone [] q folder (λ e. foreign.0.0 (ap mark e))
    ∙ nothing_else q (λ e. foreign.0.0 (ap mark e))

module _ (n : ℕ) (small : n ≤ 2 ^ 32) where
  in_texts : (q : Place) → IsApart (mark q) → finmap.get (sample_content n) q ≡ finmap.get (with_both n) q
  in_texts q apart = past_manifests (with_texts n) 0 n (omega (arith, small)) q apart ∙ ap (λ content. finmap.get content q) (texts_are n)

  pub metadata_there : node_at (sample_content n) (codes "/s/m.json") ≡ Some (file (sample_metadata n))
  unfolding path_components path_names
  metadata_there =
      in_texts metadata_place (
        λ e. let bad : 109 ≡ 0 = e in omega (arith, bad),
        λ e. let bad : 109 ≡ 115 = e in omega (arith, bad),
        λ e. let bad : 109 ≡ 99 = e in omega (arith, bad),
        λ e. let bad : 109 ≡ 67 = e in omega (arith, bad),
      )
      ∙ metadata_in_texts n

  pub policy_there : node_at (sample_content n) (codes "/s/p.toml") ≡ Some (file sample_policy)
  unfolding path_components path_names
  policy_there =
      in_texts policy_place (
        λ e. let bad : 112 ≡ 0 = e in omega (arith, bad),
        λ e. let bad : 112 ≡ 115 = e in omega (arith, bad),
        λ e. let bad : 112 ≡ 99 = e in omega (arith, bad),
        λ e. let bad : 112 ≡ 67 = e in omega (arith, bad),
      )
      ∙ policy_in_texts n

  pub nothing_there : (path : List ℕ) → IsForeign (mark (resolve path)) → node_at (sample_content n) path ≡ None
  nothing_there path foreign = in_texts (resolve path) foreign.0 ∙ nothing_in_texts n (resolve path) foreign
