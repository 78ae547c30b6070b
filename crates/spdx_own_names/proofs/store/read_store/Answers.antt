use Rattle.std.proofs.Common.{Ok}
use Rattle.spdx_own_names.specs.declared.error.StoreError.TheVariants.{Memory}
use Rattle.spdx_own_names.proofs.StoreLemmas.{store_is, store_lost, store_refused}
use Rattle.spdx_own_names.proofs.store.read_store.Goals as goal

pub returns-clause-read : goal.returns-clause-read
returns-clause-read g c = store_is _ _ _ _ c.in_ok-texts.texts c.in_ok-store.store c.faults-before.ensures c.in_ok-store.ensures c.in_ok-texts.ensures.read

pub returns-in_err-texts-clause-read : goal.returns-in_err-texts-clause-read
returns-in_err-texts-clause-read g c =
    store_refused _ _ _ _ c.from_residual.result c.in_err-texts.field-0.0 c.faults-before.ensures c.from_residual.ensures.1 c.in_err-texts.ensures.read

pub returns-in_err-store-clause-read : goal.returns-in_err-store-clause-read
returns-in_err-store-clause-read g c =
    store_refused _ _ _ _ c.from_residual-in_err-store.result Memory c.faults-before.ensures c.from_residual-in_err-store.ensures.1 (store_lost _ _ _ (Ok c.in_ok-texts.texts) c.in_ok-texts.ensures.read)
