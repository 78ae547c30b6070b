-- The roots so far, and those that are left, are all.
use Rattle.std.proofs.Common.{◌≡◌, ◌++◌, drop}
use Rattle.graph_walk.specs.Search.{roots_from}
use Rattle.graph_walk.proofs.walks.root_places.Given as goal

abbrev pub invariant-roots : goal.invariant-roots
invariant-roots l = l.places.items ++ roots_from l.place (drop l.place l.standings) ≡ roots_from 0 l.standings
