-- Lists of crates that have a property, in the order of their ids.
use Rattle.std.specs.Prelude.{◌≡◌, ℕ, List, [], ◌∷◌, ◌&&◌, ◌||◌, map, filter, Bool, All, Contains, Some, None}
use Rattle.std.specs.Borrow.{Bor}
use Rattle.graph_core.specs.declared.krate.Krate.{Krate}
use Rattle.graph_core.specs.declared.edge.DepKind.{DepKind}
use Rattle.graph_core.specs.declared.edge.DepKind.TheVariants.{Normal, Dev, Build}
use Rattle.graph_core.specs.declared.edge.Kinds.{Kinds}
use Rattle.graph_core.specs.Krate.{CrateRecord, ids_in, record_of}
use Rattle.graph_core.specs.Metadata.{Graph, AreRising, no_kinds}
use Rattle.graph_core.specs.declared.selection.selection.Include.{Include}
use Rattle.graph_core.specs.selection.Choice.{Choice}
use Rattle.graph_core.specs.selection.Roots.{crates_of}
use Rattle.graph_core.specs.selection.Walks.{Reached}

-- the ids rise strictly, each has the property, each that has it is in the list, and each item is the crate of its id
pub record IsListOf (graph : Graph) (Has : List ℕ → Type 0) (crates : List CrateRecord) : Type 0 where
  pub rising : AreRising (ids_in crates)
  pub sound : All Has (ids_in crates)
  pub whole : (id : List ℕ) → Has id → Contains (ids_in crates) id
  pub records : All (Contains (crates_of graph)) crates

-- ---- what is seen of the crates that are reached

-- a crate that is reached, and the kinds without which it is reached too
pub record ReachedCrate : Type 0 where
  pub krate : CrateRecord
  pub without : Kinds

pub record ReachedCrates : Type 0 where
  pub items : List ReachedCrate
  pub members : List (List ℕ)
  pub workspace_root : List ℕ

abbrev pub has_kind : DepKind → Kinds → Bool
has_kind Normal kinds = kinds.normal
has_kind Dev kinds = kinds.dev
has_kind Build kinds = kinds.build

abbrev pub crates_in : List ReachedCrate → List CrateRecord
crates_in items = map (λ item. item.krate) items

abbrev pub reached_in : ReachedCrates → List CrateRecord
reached_in chosen = crates_in chosen.items

abbrev pub reached_without : DepKind → ReachedCrates → List CrateRecord
reached_without kind chosen = crates_in (filter (λ item. has_kind kind item.without) chosen.items)

abbrev pub is_selected : Include → Kinds → Bool
is_selected include without = (include.dev || without.dev) && (include.build || without.build)

abbrev pub selected_in : Include → ReachedCrates → List CrateRecord
selected_in include chosen = crates_in (filter (λ item. is_selected include item.without) chosen.items)

-- the crates that a choice reaches in a graph
pub record IsChosen (graph : Graph) (choice : Choice) (chosen : ReachedCrates) : Type 0 where
  pub reached : IsListOf graph (Reached graph choice None) (reached_in chosen)
  pub without : (kind : DepKind) → IsListOf graph (Reached graph choice (Some kind)) (reached_without kind chosen)
  pub members : chosen.members ≡ graph.members
  pub workspace_root : chosen.workspace_root ≡ graph.workspace_root

-- ---- the same of crates in memory

-- a crate of which nothing is beside is reached without no kind
abbrev pub listed_crates : List Krate → List Kinds → List ReachedCrate
listed_crates [] without = []
listed_crates (krate ∷ crates) [] = record { krate = record_of krate; without = no_kinds } ∷ listed_crates crates []
listed_crates (krate ∷ crates) (kinds ∷ without) =
    record { krate = record_of krate; without = kinds } ∷ listed_crates crates without

abbrev pub chosen_with : List Krate → List Kinds → List (List ℕ) → List ℕ → ReachedCrates
chosen_with crates without members workspace_root =
    record { items = listed_crates crates without; members = members; workspace_root = workspace_root }

abbrev pub record_behind : Bor Krate → CrateRecord
record_behind krate = record_of krate.now
