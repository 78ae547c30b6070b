-- What the values of the program stand for.
use Rattle.std.specs.Prelude.{List, [], ◌∷◌}
use Rattle.toml_subset.specs.Data as «data»
use Rattle.toml_subset.specs.Data.{TomlContent, Items, Entries, Toml}
use Rattle.toml_subset.specs.declared.string.Key.{Key}
use Rattle.toml_value.specs.declared.value.Value.{Value, fold-Value}
use Rattle.toml_value.specs.declared.value.ValueInner.{ValueInner, fold-ValueInner}
use Rattle.toml_value.specs.declared.value.ValueInner.TheOpen.{ValueInner-F, Value-F, Values-F, Entries-F}
use Rattle.toml_value.specs.declared.value.Values.{Values, fold-Values}
use Rattle.toml_value.specs.declared.value.Entries.{Entries as EntriesOf, fold-Entries}

abbrev pub items_from_list : List Toml → Items
items_from_list [] = data.no_item
items_from_list (x ∷ xs) = data.item x.span x.content (items_from_list xs)

abbrev pub entries_from_list : List (Key × Toml) → Entries
entries_from_list [] = data.no_entry
entries_from_list (x ∷ xs) = data.entry x.0 x.1.span x.1.content (entries_from_list xs)

-- one level of a value, with what is in it already seen
abbrev pub content_step : ValueInner-F TomlContent Entries Toml Items → TomlContent
content_step (ValueInner-F.String s) = data.string s
content_step (ValueInner-F.Integer z) = data.integer z
content_step (ValueInner-F.Decimal z) = data.decimal z
content_step (ValueInner-F.Boolean b) = data.boolean b
content_step (ValueInner-F.Array items) = data.array items
content_step (ValueInner-F.Table entries) = data.table entries

abbrev pub entries_step : Entries-F TomlContent Entries Toml Items → Entries
entries_step x = entries_from_list x.items.items

abbrev pub value_step : Value-F TomlContent Entries Toml Items → Toml
value_step x = record { content = x.inner; span = x.span }

abbrev pub items_step : Values-F TomlContent Entries Toml Items → Items
items_step x = items_from_list x.items.items

-- a value, and what is in it
abbrev pub value_view : Value → Toml
value_view = fold-Value TomlContent Entries Toml Items content_step entries_step value_step items_step

abbrev pub content_view : ValueInner → TomlContent
content_view = fold-ValueInner TomlContent Entries Toml Items content_step entries_step value_step items_step

abbrev pub values_view : Values → Items
values_view = fold-Values TomlContent Entries Toml Items content_step entries_step value_step items_step

abbrev pub entries_view : EntriesOf → Entries
entries_view = fold-Entries TomlContent Entries Toml Items content_step entries_step value_step items_step
