-- The edges so far, and those of the rest, are all.
use Rattle.std.proofs.Common.{◌≡◌, ◌++◌, map, drop}
use Rattle.graph_metadata.specs.Order.{ranked_edges}
use Rattle.graph_metadata.proofs.order.edges_in_order.Given as goal

abbrev pub invariant-spots : goal.invariant-spots
invariant-spots l =
    l.all.items ++ map (ranked_edges l.ranks l.lists) (drop l.spot-index l.spots) ≡ map (ranked_edges l.ranks l.lists) l.spots
