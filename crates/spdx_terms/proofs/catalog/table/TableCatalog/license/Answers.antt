use Rattle.std.proofs.Common.{◌∙◌, ap, refl}
use Rattle.spdx_terms.specs.catalog.Catalog.{entry_of}
use Rattle.spdx_terms.specs.catalog.Table.{single_names, families, gnu_families, table_licenses}
use Rattle.spdx_terms.proofs.catalog.OrderedLemmas.{in_order, sorted_from_rise, entry_of-in_order}
use Rattle.spdx_terms.proofs.catalog.table.TableCatalog.license.Goals as goal

pub entry_among-requires : goal.entry_among-requires
entry_among-requires c = sorted_from_rise _ refl

pub returns : goal.returns
unfolding single_names families gnu_families
returns c = c.entry_among.ensures ∙ ap (entry_of (in_order table_licenses)) c.as_bytes.ensures.value ∙ entry_of-in_order table_licenses c.args.name.now
