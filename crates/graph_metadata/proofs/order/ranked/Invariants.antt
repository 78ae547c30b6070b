-- The edges so far, and those of the rest, are all.
use Rattle.std.proofs.Common.{◌≡◌, ◌++◌, map, drop}
use Rattle.graph_metadata.specs.Order.{ranked_edge}
use Rattle.graph_metadata.proofs.order.ranked.Given as goal

abbrev pub invariant-edges : goal.invariant-edges
invariant-edges l =
    l.list.items ++ map (ranked_edge l.ranks) (drop l.edge-index l.edges) ≡ map (ranked_edge l.ranks) l.edges
