-- Putting the roots that are left gives what putting all gives.
use Rattle.std.proofs.Common.{◌≡◌, drop, length}
use Rattle.graph_core.specs.selection.Places.{nothing_seen, put_roots, frontier_of}
use Rattle.graph_core.proofs.selection.marks.roots_in.Given as goal

abbrev pub invariant-roots : goal.invariant-roots
invariant-roots l = record {
  counted : length l.found.marks.items ≡ length l.standings;
  so_far : put_roots l.place (drop l.place l.standings) (frontier_of l.found)
      ≡ put_roots 0 l.standings (nothing_seen (length l.standings));
}
