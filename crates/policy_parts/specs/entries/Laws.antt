-- What holds of all files of exceptions.
use Rattle.std.specs.Prelude.{◌≡◌, codes, Some, None}
use Rattle.spdx_terms.specs.catalog.Catalog.{CatalogLists}
use Rattle.deny_text.specs.declared.span.Span.{Span}
use Rattle.toml_subset.specs.Data.{Entries, array, no_item}
use Rattle.toml_value.specs.Lookup.{value_at}
use Rattle.toml_value.specs.Removal.{entries_without}
use Rattle.policy_parts.specs.entries.Exceptions.{exceptions_file_at}

-- an empty `clarify`, which is there once, as each key of a table is, says what none does
abbrev pub EmptyClarifyIsNone : Type 0
EmptyClarifyIsNone =
    (lists : CatalogLists) (entries : Entries) (span place : Span)
    → value_at (codes "clarify") entries ≡ Some (record { content = array no_item; span = place })
    → value_at (codes "clarify") (entries_without (codes "clarify") entries) ≡ None
    → exceptions_file_at lists entries span ≡ exceptions_file_at lists (entries_without (codes "clarify") entries) span
