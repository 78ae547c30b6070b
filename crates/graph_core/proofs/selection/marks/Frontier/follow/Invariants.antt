-- Following the edges that are left gives what following all gives.
use Rattle.std.proofs.Common.{◌≡◌, drop, length}
use Rattle.graph_core.specs.selection.Places.{follow, frontier_of}
use Rattle.graph_core.proofs.selection.marks.Frontier.follow.Given as goal

abbrev pub invariant-edges : goal.invariant-edges
invariant-edges l = record {
  counted : length l.self.marks.items ≡ length l.standings;
  so_far : follow l.standings l.counting (frontier_of l.self) (drop l.edge-index l.edges)
      ≡ follow l.standings l.counting (frontier_of l.initial.self) l.edges;
}
