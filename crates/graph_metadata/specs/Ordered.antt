-- The parts that the code makes of the rows, beside the crates.
use Rattle.std.specs.Prelude.{◌≡◌, map, length, option_map}
use Rattle.graph_metadata.specs.declared.order.OrderedParts.{OrderedParts}
use Rattle.graph_metadata.specs.declared.rows.AllRows.{AllRows}
use Rattle.graph_metadata.specs.NodeRows.{member_of}
use Rattle.graph_metadata.specs.Order.{AreRanks, spot_place, id_of_member, rank_at, rank_of_member, ranked_edges}
use Rattle.graph_metadata.specs.Records.{spots_of}

-- the spots are those of the crates, and all else is reported by their ranks
pub record AreOrdered (rows : AllRows) (parts : OrderedParts) : Type 0 where
  pub spots : parts.spots.items ≡ spots_of rows.root.known rows.nodes.firsts
  pub ranks : AreRanks (map spot_place (spots_of rows.root.known rows.nodes.firsts))
      (length (spots_of rows.root.known rows.nodes.firsts)) parts.ranks.items
  pub edges : parts.edges.items
      ≡ map (ranked_edges parts.ranks.items rows.edges.items) (spots_of rows.root.known rows.nodes.firsts)
  pub members : parts.members ≡ map id_of_member (map member_of rows.root.members.items)
  pub places : parts.member_places.items
      ≡ map (rank_of_member parts.ranks.items) (map member_of rows.root.members.items)
  pub folder : parts.workspace_root ≡ rows.root.workspace_root.now
  pub root : parts.root ≡ option_map (rank_at parts.ranks.items) rows.resolve.root
