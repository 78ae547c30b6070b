-- What a command is given, but for its files, its own options, and what tells licences from texts.
use Rattle.spdx_terms.specs.catalog.Catalog.{CatalogLists}
use Rattle.diag_print.specs.declared.context.LogContext.{LogContext}
use Rattle.run_request.specs.declared.context.KrateContext.{KrateContext}

-- the catalogue's lists, how findings are written, and which crates are looked at
pub record RequestArguments : Type 0 where
  pub lists : CatalogLists
  pub log : LogContext
  pub context : KrateContext

abbrev pub request_arguments_of : CatalogLists → LogContext → KrateContext → RequestArguments
request_arguments_of lists log context = record { lists = lists; log = log; context = context }
