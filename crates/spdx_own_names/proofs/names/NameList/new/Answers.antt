use Rattle.std.proofs.Common.{ℕ, List, sym, subst}
use Rattle.spdx_own_names.specs.Index.{HasNames}
use Rattle.spdx_own_names.proofs.IndexLemmas.{no_names}
use Rattle.spdx_own_names.proofs.names.NameList.new.Goals as goal

pub invariant_of-result : goal.invariant_of-result
invariant_of-result c = subst (λ (listed : List (List ℕ)). HasNames c.new-2.result listed) (sym c.new.ensures) (no_names c.new-2.result c.new-2.ensures)
