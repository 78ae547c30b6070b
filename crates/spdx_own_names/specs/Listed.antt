-- What a listing lists.
use Rattle.spdx_terms.specs.catalog.Catalog.{CatalogLists}
use Rattle.spdx_own_names.specs.ListsView.{lists_from}
use Rattle.spdx_own_names.specs.declared.listing.FileCatalog.{FileCatalog}

abbrev pub lists_in : FileCatalog → CatalogLists
lists_in listing = lists_from listing.licenses listing.exceptions listing.meanings
