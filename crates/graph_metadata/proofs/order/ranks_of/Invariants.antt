-- The crates so far have their ranks.
use Rattle.std.proofs.Common.{◌≡◌, map, length}
use Rattle.graph_metadata.specs.Order.{AreRanks, spot_place}
use Rattle.graph_metadata.proofs.order.ranks_of.Given as goal

abbrev pub invariant-ranks : goal.invariant-ranks
invariant-ranks l = record { counted : length l.ranks.items ≡ l.count; ranked : AreRanks (map spot_place l.spots) l.rank l.ranks.items }
