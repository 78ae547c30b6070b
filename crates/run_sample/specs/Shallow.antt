-- Where files and folders of the sample may be: for private clauses.
use Rattle.std.specs.Prelude.{◌≡◌, ◌≢◌, ◌≤◌, ◌⊎◌, ℕ, List, [], ◌∷◌, length, take, Some, codes}
use Rattle.std.specs.FinMap as finmap
use Rattle.tree_core.specs.Content.{Content, Place, file, folder}

abbrev pub metadata_place : Place
metadata_place = codes "s" ∷ codes "m.json" ∷ []

abbrev pub policy_place : Place
policy_place = codes "s" ∷ codes "p.toml" ∷ []

-- a place below a folder of `/s` that is no file
pub record IsBelow (place : Place) : Type 0 where
  pub three : length place ≡ 3
  pub no_metadata : take 2 place ≢ metadata_place
  pub no_policy : take 2 place ≢ policy_place

-- a place of a file
abbrev pub IsLeaf : Place → Type 0
IsLeaf place = (place ≡ metadata_place) ⊎ ((place ≡ policy_place) ⊎ IsBelow place)

-- a place of a folder
pub record IsInner (place : Place) : Type 0 where
  pub most : length place ≤ 2
  pub no_metadata : place ≢ metadata_place
  pub no_policy : place ≢ policy_place

pub record IsShallow (content : Content) : Type 0 where
  pub folders : (place : Place) → finmap.get content place ≡ Some folder → IsInner place
  pub files : (place : Place) (bytes : List ℕ) → finmap.get content place ≡ Some (file bytes) → IsLeaf place
