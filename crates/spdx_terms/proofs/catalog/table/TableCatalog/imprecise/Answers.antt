use Rattle.spdx_terms.specs.catalog.Table.{table_imprecise}
use Rattle.spdx_terms.proofs.catalog.table.TableCatalog.imprecise.Goals as goal

pub returns : goal.returns
unfolding table_imprecise
returns c = record { found = c.in_ok-found.ensures.found; none = tt }

pub returns-in_err-found-clause-none : goal.returns-in_err-found-clause-none
unfolding table_imprecise
returns-in_err-found-clause-none c = rw c.from_residual.ensures c.in_err-found.ensures.none
