use Rattle.std.proofs.Common.{length}
use Rattle.toml_value.proofs.value.+walk.Given as goal

abbrev pub decreases-walk : goal.decreases-walk
decreases-walk l = length l.rest.now
