use Rattle.std.proofs.Common.{length}
use Rattle.tree_core.proofs.nodes.+add.Given as goal

abbrev pub decreases-add : goal.decreases-add
decreases-add l = length l.place.now
