use Rattle.std.proofs.Common.{length}
use Rattle.spdx_terms.proofs.catalog.table.+longest.Given as goal

abbrev pub decreases-longest : goal.decreases-longest
decreases-longest l = length l.meanings.now
