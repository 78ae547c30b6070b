-- What metadata tells: crates, the edges between them, the members of the workspace, its root folder and its root
-- crate.
use Rattle.std.specs.Prelude.{◌≡◌, ℕ, ◌<◌, false, List, [], ◌∷◌, map, length, slice_get, Option, Some, None, All}
use Rattle.std.specs.Prelude.{unwrap_or, IfSome}
use Rattle.std.specs.Option.{option_map_or}
use Rattle.std.specs.Ordering.{nat_cmp}
use Rattle.std.specs.List.Sorted.{IsStrictlySortedBy}
use Rattle.std.specs.Cmp.Lexicographic.{slice_cmp}
use Rattle.graph_core.specs.declared.krate.Krate.{Krate}
use Rattle.graph_core.specs.declared.edge.Edge.{Edge}
use Rattle.graph_core.specs.declared.edge.Kinds.{Kinds}
use Rattle.graph_core.specs.Krate.{CrateRecord, record_of, id_of}

abbrev pub no_kinds : Kinds
no_kinds = record { normal = false; dev = false; build = false }

-- an edge: the id of the crate that it leads to, and its kinds
pub record Link : Type 0 where
  pub to : List ℕ
  pub kinds : Kinds

-- a crate with the edges that lead out of it, in order
pub record CrateNode : Type 0 where
  pub krate : CrateRecord
  pub edges : List Link

-- The nodes in rising byte order of ids, the ids of the members in the order of the text, the root folder, and the id
-- of the root crate, where there is one.
pub record Graph : Type 0 where
  pub nodes : List CrateNode
  pub members : List (List ℕ)
  pub workspace_root : List ℕ
  pub root : Option (List ℕ)

-- the id of the crate at a place; the empty text where there is none
abbrev pub crate_id_at : List Krate → ℕ → List ℕ
crate_id_at crates place = unwrap_or (slice_get (map id_of crates) place) []

abbrev pub link_of : List Krate → Edge → Link
link_of crates edge = record { to = crate_id_at crates edge.to; kinds = edge.kinds }

-- crates with the lists of their edges; a crate for which there is no list has none
abbrev pub nodes_of : List Krate → List Krate → List (List Edge) → List CrateNode
nodes_of all [] lists = []
nodes_of all (krate ∷ crates) [] = record { krate = record_of krate; edges = [] } ∷ nodes_of all crates []
nodes_of all (krate ∷ crates) (edges ∷ lists) =
    record { krate = record_of krate; edges = map (link_of all) edges } ∷ nodes_of all crates lists

-- ---- what holds of the parts

-- the ids rise strictly, so none is there twice
abbrev pub AreRising : List (List ℕ) → Type 0
AreRising ids = IsStrictlySortedBy (slice_cmp nat_cmp) ids

-- each edge leads to one of so many crates
abbrev pub LeadWithin : ℕ → List Edge → Type 0
LeadWithin count edges = All (λ edge. edge.to < count) edges

-- places among so many crates, and one that may be missing
abbrev pub ArePlaces : ℕ → List ℕ → Type 0
ArePlaces count places = All (λ place. place < count) places

abbrev pub IsPlace : ℕ → Option ℕ → Type 0
IsPlace count place = IfSome place (λ found. found < count)

-- crates, the edges out of each, the places of the members and of the root fit together
pub record FitTogether (crates : List Krate) (lists : List (List Edge)) (members : List (List ℕ)) (places : List ℕ)
    (root : Option ℕ) : Type 0 where
  pub rising : AreRising (map id_of crates)
  pub counted : length lists ≡ length crates
  pub within : All (LeadWithin (length crates)) lists
  pub member_ids : map (crate_id_at crates) places ≡ members
  pub member_places : ArePlaces (length crates) places
  pub root_place : IsPlace (length crates) root

-- ---- what is seen of a graph

-- the ids of the crates, in rising order
abbrev pub ids_of : Graph → List (List ℕ)
ids_of graph = map (λ node. node.krate.id) graph.nodes

-- the id of the crate at a place; the empty text where there is none
abbrev pub id_of_node : Graph → ℕ → List ℕ
id_of_node graph place = unwrap_or (slice_get (ids_of graph) place) []

-- the edges out of the crate at a place; none where there is none
abbrev pub edges_at : Graph → ℕ → List Link
edges_at graph place = option_map_or (λ node. node.edges) (slice_get graph.nodes place) []

abbrev pub link_in : Graph → Edge → Link
link_in graph edge = record { to = id_of_node graph edge.to; kinds = edge.kinds }
