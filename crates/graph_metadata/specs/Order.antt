-- Crates in the order of their ids: the lists that the code makes of the rows.
use Rattle.std.specs.Prelude.{◌≡◌, ℕ, ◌<◌, List, map, slice_get, slice_index_or, Some}
use Rattle.graph_core.specs.declared.edge.Edge.{Edge}
use Rattle.graph_metadata.specs.declared.order.Spot.{Spot}
use Rattle.graph_metadata.specs.Nodes.{Member}
use Rattle.graph_metadata.specs.Records.{edges_of_node}

abbrev pub spot_place : Spot → ℕ
spot_place spot = spot.place

abbrev pub id_of_member : Member → List ℕ
id_of_member member = member.id

-- the rank of the package at a place
abbrev pub rank_at : List ℕ → ℕ → ℕ
rank_at ranks place = slice_index_or ranks place 0

abbrev pub rank_of_member : List ℕ → Member → ℕ
rank_of_member ranks member = rank_at ranks member.place

-- the rank of each of the first places is where it is among them
abbrev pub AreRanks : List ℕ → ℕ → List ℕ → Type 0
AreRanks places count ranks =
    (j place : ℕ) → j < count → slice_get places j ≡ Some place → slice_get places (rank_at ranks place) ≡ Some place

-- an edge by ranks, and those of a node
abbrev pub ranked_edge : List ℕ → Edge → Edge
ranked_edge ranks edge = record { to = rank_at ranks edge.to; kinds = edge.kinds }

abbrev pub ranked_edges : List ℕ → List (List Edge) → Spot → List Edge
ranked_edges ranks lists spot = map (ranked_edge ranks) (edges_of_node lists spot.node)
