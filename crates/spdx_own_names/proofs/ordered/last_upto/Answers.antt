use Rattle.std.proofs.Common.{arith}
use Rattle.spdx_own_names.proofs.OrderLemmas.{last_on}
use Rattle.spdx_own_names.proofs.ordered.last_upto.Goals as goal

pub lens-preserved : goal.lens-preserved
lens-preserved c = (omega (arith, c.lens-test.true), last_on c.args.ordered.now c.args.text.now c.lens.len c.lens.last c.later_of-last.result c.lens.invariant.1 c.later_of-last.ensures)
