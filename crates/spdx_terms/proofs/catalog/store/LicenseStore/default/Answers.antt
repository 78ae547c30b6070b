use Rattle.std.proofs.Common.{subst, sym}
use Rattle.spdx_terms.specs.catalog.StorePlaces.{FindsTexts}
use Rattle.spdx_terms.proofs.catalog.StorePlaceLemmas.{no_texts}
use Rattle.spdx_terms.proofs.catalog.store.LicenseStore.default.Goals as goal

pub invariant_of-result : goal.invariant_of-result
invariant_of-result c = subst (λ texts. FindsTexts c.new-2.result c.new-3.result texts) (sym c.new.ensures) (no_texts c.new-2.result c.new-3.result c.new-2.ensures c.new-3.ensures)
