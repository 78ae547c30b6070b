-- Nothing is in the way of the sample's files.
use Rattle.std.proofs.Common.{◌≡◌, ◌≢◌, ◌∙◌, refl, sym, ap, subst, ℕ, ◌<◌, ◌≤◌, ◌⊎◌, inl, inr, List, [], length, take, Some, None, arith}
use Rattle.std.specs.FinMap as finmap
use Rattle.std.specs.FinMap.{get-empty}
use Rattle.std.proofs.lemmas.Bool.{cases_lt}
use Rattle.std.proofs.lemmas.List.{take_all}
use Rattle.tree_core.specs.Content.{Content, Place, file, folder, place_cmp}
use Rattle.tree_core.specs.TreeState.{IsPlaceFront, Puts, Clashes, at_folder, below_file, root_alone}
use Rattle.tree_core.proofs.PlaceLemmas.{cases_place}
use Rattle.tree_core.proofs.PutLemmas.{get-insert_same, get-insert_other}
use Rattle.run_sample.specs.Shallow.{IsInner, IsLeaf, IsShallow, metadata_place, policy_place}

short : (q : Place) → length q ≤ 1 → IsInner q
short q most = record {
  most = omega arith;
  no_metadata = λ e. let two : length q ≡ 2 = ap length e in omega (arith, two);
  no_policy = λ e. let two : length q ≡ 2 = ap length e in omega (arith, two);
}

cut : (front place : Place) → take (length front) place ≡ front → (q : Place) → front ≡ q → length q ≡ 2 → take 2 place ≡ q
cut front place is q e two = ap (λ n. take n place) (sym two ∙ ap length (sym e)) ∙ is ∙ e

-- a front that is shorter than the place is not itself the place of a file
inner_front : (front place : Place) → IsLeaf place → IsPlaceFront front place → length front < length place → IsInner front
inner_front front place (inl is) front_is shorter = let two : length place ≡ 2 = ap length is in short front (omega (arith, two))
inner_front front place (inr (inl is)) front_is shorter = let two : length place ≡ 2 = ap length is in short front (omega (arith, two))
inner_front front place (inr (inr below)) front_is shorter =
    record {
      most = omega (arith, below.three);
      no_metadata = λ e. below.no_metadata (cut front place front_is metadata_place e refl);
      no_policy = λ e. below.no_policy (cut front place front_is policy_place e refl);
    }

-- the place of a file is none of a folder
leaf_not_inner : (place : Place) → IsLeaf place → IsInner place → ⊥
leaf_not_inner place (inl is) inner = inner.no_metadata is
leaf_not_inner place (inr (inl is)) inner = inner.no_policy is
leaf_not_inner place (inr (inr below)) inner = omega (arith, below.three, inner.most)

pub no_clash : (content : Content) (place : Place) → IsShallow content → IsLeaf place → ¬ (Clashes content place)
no_clash content place shallow leaf (at_folder is) = leaf_not_inner place leaf (shallow.folders place is)
no_clash content place shallow leaf (below_file front bytes is shorter held) =
    leaf_not_inner front (shallow.files front bytes held) (inner_front front place leaf is shorter)

module _ (old new : Content) (place : Place) (bytes : List ℕ) (shallow : IsShallow old) (leaf : IsLeaf place) (puts : Puts old new place (file bytes)) where
  shorter_front : (q : Place) → q ≢ place → IsPlaceFront q place → length q < length place
  shorter_front q differs is = elim (cases_lt (length q) (length place)) [
    | inl less ↦ less
    | inr most ↦ absurd (differs (sym is ∙ take_all (length q) place most))
  ]

  -- what is at a place: what was put, a folder above, or what was there there
  looked : (q : Place) → (q ≡ place) ⊎ ((IsPlaceFront q place × (length q < length place)) ⊎ (finmap.get new q ≡ finmap.get old q))
  looked q = elim (cases_place q place) [
    | inl same ↦ inl same
    | inr differs ↦ elim (cases_place (take (length q) place) q) [
      | inl is ↦ inr (inl (is, shorter_front q differs is))
      | inr no_front ↦ inr (inr (puts.others q no_front))
    ]
  ]

  folders_after : (q : Place) → finmap.get new q ≡ Some folder → IsInner q
  folders_after q there = elim (looked q) [
    | inl same ↦ let wrong : Some folder ≡ Some (file bytes) = sym there ∙ ap (finmap.get new) same ∙ puts.there in cc
    | inr rest ↦ elim rest [
      | inl front ↦ inner_front q place leaf front.0 front.1
      | inr same ↦ shallow.folders q (sym same ∙ there)
    ]
  ]

  files_after : (q : Place) (held : List ℕ) → finmap.get new q ≡ Some (file held) → IsLeaf q
  files_after q held there = elim (looked q) [
    | inl same ↦ subst IsLeaf (sym same) leaf
    | inr rest ↦ elim rest [
      | inl front ↦ let wrong : Some (file held) ≡ Some folder = sym there ∙ puts.above q front.0 front.1 in cc
      | inr same ↦ shallow.files q held (sym same ∙ there)
    ]
  ]

  pub still_shallow : IsShallow new
  still_shallow = record { folders = folders_after; files = files_after }

pub nothing_else : (q : Place) → q ≢ [] → finmap.get root_alone q ≡ None
nothing_else q differs = get-insert_other finmap.empty [] q folder differs ∙ get-empty place_cmp q

root_there : finmap.get root_alone [] ≡ Some folder
root_there = get-insert_same finmap.empty [] folder

folders_alone : (q : Place) → finmap.get root_alone q ≡ Some folder → IsInner q
folders_alone q there = elim (cases_place q []) [
  | inl same ↦ short q (omega (arith, ap length same))
  | inr differs ↦ let wrong : Some folder ≡ None = sym there ∙ nothing_else q differs in cc
]

files_alone : (q : Place) (held : List ℕ) → finmap.get root_alone q ≡ Some (file held) → IsLeaf q
files_alone q held there = elim (cases_place q []) [
  | inl same ↦ let wrong : Some (file held) ≡ Some folder = sym there ∙ ap (finmap.get root_alone) same ∙ root_there in cc
  | inr differs ↦ let wrong : Some (file held) ≡ None = sym there ∙ nothing_else q differs in cc
]

pub shallow_root : IsShallow root_alone
shallow_root = record { folders = folders_alone; files = files_alone }
