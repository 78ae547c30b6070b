use Rattle.std.proofs.Common.{◌∙◌}
use Rattle.spdx_terms.specs.catalog.BuiltIn.{isc_body, mit_body}
use Rattle.spdx_terms.proofs.catalog.store.LicenseStore.from_cache.Goals as goal

pub returns : goal.returns
unfolding isc_body mit_body
returns c = c.in_ok-store.ensures ∙ c.in_ok-texts.ensures
