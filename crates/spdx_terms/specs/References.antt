-- A reference within its word.
use Rattle.std.specs.Option.{option_map}
use Rattle.spdx_terms.specs.declared.term.LicenseItem.{LicenseItem}
use Rattle.spdx_terms.specs.declared.term.LicenseItem.TheVariants.{Reference}
use Rattle.spdx_terms.specs.declared.words.ReferenceParts.{ReferenceParts}

abbrev pub parts_item : ReferenceParts → LicenseItem
parts_item parts = Reference (option_map (λ doc. doc.now) parts.doc) parts.id.now
