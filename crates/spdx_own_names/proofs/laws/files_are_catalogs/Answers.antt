use Rattle.spdx_own_names.proofs.CatalogLemmas.{files_are_catalogs}
use Rattle.spdx_own_names.proofs.laws.files_are_catalogs.Goals as goal

pub returns : goal.returns
returns c = files_are_catalogs
