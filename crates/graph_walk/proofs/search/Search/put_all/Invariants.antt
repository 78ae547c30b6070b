-- Finding the places that are left gives what finding all gives; what they are found behind stays the same.
use Rattle.std.proofs.Common.{◌≡◌, ◌≤◌, drop, length}
use Rattle.graph_walk.specs.Search.{put_all, walk_behind}
use Rattle.graph_walk.proofs.search.Search.put_all.Given as goal

abbrev pub invariant-places : goal.invariant-places
invariant-places l = record {
  counted : length l.self.best ≡ length l.initial.self.best;
  longer : length l.initial.self.order ≤ length l.self.order;
  behind : walk_behind l.self.order l.by ≡ walk_behind l.initial.self.order l.by;
  so_far : put_all (walk_behind l.initial.self.order l.by) (drop l.place-index l.places) l.self
      ≡ put_all (walk_behind l.initial.self.order l.by) l.places l.initial.self;
}
