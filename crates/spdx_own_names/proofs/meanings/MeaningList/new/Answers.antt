use Rattle.std.proofs.Common.{List, sym, subst}
use Rattle.spdx_own_names.specs.Index.{HasNames}
use Rattle.spdx_own_names.specs.IndexView.{meanings_listed, texts_lowered}
use Rattle.spdx_own_names.specs.declared.meanings.Meaning.{Meaning}
use Rattle.spdx_own_names.proofs.IndexLemmas.{no_names}
use Rattle.spdx_own_names.proofs.meanings.MeaningList.new.Goals as goal

pub invariant_of-result : goal.invariant_of-result
invariant_of-result c = subst (λ (listed : List Meaning). HasNames c.new-2.result (texts_lowered (meanings_listed listed))) (sym c.new.ensures) (no_names c.new-2.result c.new-2.ensures)
