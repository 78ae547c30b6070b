-- What was found is reached by shortest walks so far, and what was followed is done; a turn is left for each crate at most.
use Rattle.std.proofs.Common.{◌-◌, length}
use Rattle.graph_core.specs.selection.Choice.{choice_of}
use Rattle.graph_walk.proofs.TurnLemmas.{IsUnderWay}
use Rattle.graph_walk.proofs.walks.shortest_walks.Given as goal

abbrev pub invariant-walks : goal.invariant-walks
invariant-walks l = IsUnderWay l.metadata (choice_of l.selection) l.fn.named l.next l.search

abbrev pub decreases-walks : goal.decreases-walks
decreases-walks l = length l.metadata.nodes - l.next
