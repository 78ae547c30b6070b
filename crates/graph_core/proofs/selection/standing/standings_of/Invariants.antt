-- The standings so far.
use Rattle.std.proofs.Common.{◌≡◌, take}
use Rattle.graph_core.specs.selection.Choice.{choice_of}
use Rattle.graph_core.specs.selection.Places.{standings_in}
use Rattle.graph_core.proofs.selection.standing.standings_of.Given as goal

abbrev pub invariant-crates : goal.invariant-crates
invariant-crates l = l.standings.items ≡ take l.place (standings_in l.metadata (choice_of l.selection))
