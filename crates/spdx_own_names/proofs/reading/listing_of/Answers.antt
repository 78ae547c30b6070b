use Rattle.std.proofs.Common.{sym, subst}
use Rattle.spdx_terms.specs.catalog.Catalog.{IsCatalog}
use Rattle.spdx_own_names.specs.File.{lines_of}
use Rattle.spdx_own_names.proofs.CatalogLemmas.{lines_are_catalog}
use Rattle.spdx_own_names.proofs.reading.listing_of.Goals as goal

pub listing_with-requires : goal.listing_with-requires
listing_with-requires c = subst IsCatalog (sym c.in-Ok.ensures.ok.1) (lines_are_catalog (lines_of c.args.text.now) c.in-Ok.ensures.ok.0)
