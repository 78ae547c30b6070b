-- The ends so far, and those that are left, are all.
use Rattle.std.proofs.Common.{◌≡◌, ◌++◌, drop}
use Rattle.graph_walk.specs.Search.{new_ends}
use Rattle.graph_walk.proofs.walks.new_ends.Given as goal

abbrev pub invariant-edges : goal.invariant-edges
invariant-edges l =
    l.ends.items ++ new_ends l.search l.standings l.counting (drop l.edge-index l.edges)
    ≡ new_ends l.search l.standings l.counting l.edges
