-- What is marked is reached, and what doesn't wait is done; each turn leaves less to do.
use Rattle.graph_core.specs.selection.Choice.{choice_of}
use Rattle.graph_core.specs.selection.Places.{frontier_of}
use Rattle.graph_core.proofs.selection.PutLemmas.{left_to_do}
use Rattle.graph_core.proofs.selection.UnderWay.{IsUnderWay}
use Rattle.graph_core.proofs.selection.marks.marks_of.Given as goal

abbrev pub invariant-walk : goal.invariant-walk
invariant-walk l = IsUnderWay l.metadata (choice_of l.selection) l.fn.named (frontier_of l.found)

abbrev pub decreases-walk : goal.decreases-walk
decreases-walk l = left_to_do (frontier_of l.found)
