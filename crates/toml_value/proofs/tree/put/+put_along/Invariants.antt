use Rattle.std.proofs.Common.{length}
use Rattle.toml_value.proofs.tree.put.+put_along.Given as goal

abbrev pub decreases-put_along : goal.decreases-put_along
decreases-put_along l = length l.rest
