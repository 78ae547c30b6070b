-- The places so far, and the walk that is left, are the whole.
use Rattle.std.proofs.Common.{◌≡◌, suc, ◌<◌, [], ◌++◌, length, slice_index_or, IfSome}
use Rattle.std.specs.Option.{option_map_or}
use Rattle.graph_walk.specs.Search.{walk_behind}
use Rattle.graph_walk.proofs.walks.walk_back.Given as goal

abbrev pub invariant-back : goal.invariant-back
invariant-back l = record {
  within : IfSome l.next (λ at. at < length l.search.order);
  so_far : l.walk.items ++ walk_behind l.search.order l.next ≡ slice_index_or l.search.order l.fn.last [];
}

abbrev pub decreases-back : goal.decreases-back
decreases-back l = option_map_or suc l.next 0
