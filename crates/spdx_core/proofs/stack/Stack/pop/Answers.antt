use Rattle.std.proofs.Common.{subst, vec_len, reverse}
use Rattle.spdx_core.specs.Stack.{Pops}
use Rattle.spdx_core.proofs.StackLemmas.{popped}
use Rattle.spdx_core.proofs.stack.Stack.pop.Goals as goal

pub returns : goal.returns
returns g c =
    subst (λ old. Pops old c.pop.result (reverse c.pop.new.self.items)) c.self.view_is
    (popped c.self.inside.inner.items c.pop.new.self.items (vec_len c.self.inside.inner) c.pop.result c.self.inside.inner.ok.0 c.pop.ensures.variant c.pop.ensures.items)
