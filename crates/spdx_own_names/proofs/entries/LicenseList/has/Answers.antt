use Rattle.std.proofs.Common.{◌∙◌, ap}
use Rattle.spdx_terms.specs.catalog.Catalog.{names_of}
use Rattle.spdx_own_names.specs.File.{is_among}
use Rattle.spdx_own_names.proofs.IndexLemmas.{found_entry}
use Rattle.spdx_own_names.proofs.entries.LicenseList.has.Goals as goal

pub returns : goal.returns
returns c =
    c.is_some.ensures ∙ found_entry _ _ c.args.name.now c.get.result c.self.invariant c.get.ensures ∙ ap (λ listed. is_among c.args.name.now (names_of listed)) c.self.view_is
