-- What is taken out of a value, what is left of it then, and that a value of another kind was wanted.
use Rattle.std.specs.Prelude.{ℕ, Bool, false, if◌then◌else◌, List, [], ◌∷◌, Option, Some, None, Ok, Err}
use Rattle.toml_subset.specs.Data.{TomlContent, Items, Entries, Toml, string, boolean, array, table, no_item, item}
use Rattle.toml_subset.specs.Written.{WrittenString}
use Rattle.toml_subset.specs.shapes.Kinds.{kind_word}
use Rattle.toml_subset.specs.shapes.Shaped.{ShapeReading}
use Rattle.toml_subset.specs.shapes.Shapes.{ShapeFault, fault_alone, wanted}
use Rattle.toml_value.specs.Kinds.{kind_of}

-- what a value holds, where it is of the kind

abbrev pub as_string : TomlContent → Option WrittenString
as_string (string w) = Some w
as_string _ = None

abbrev pub as_array : TomlContent → Option Items
as_array (array items) = Some items
as_array _ = None

abbrev pub as_table : TomlContent → Option Entries
as_table (table entries) = Some entries
as_table _ = None

-- a value of another kind was wanted there
abbrev pub wrong_kind : List ℕ → Toml → List ShapeFault
wrong_kind expected value = fault_alone (wanted expected (kind_word (kind_of value.content))) value.span

-- what was found, or else that fault
abbrev pub or_wanted : {A : Type 0} → List ℕ → Toml → Option A → ShapeReading A
or_wanted expected value (Some x) = Ok x
or_wanted expected value None = Err (wrong_kind expected value)

-- a string where a thing of that name is wanted
abbrev pub string_of : List ℕ → Toml → ShapeReading WrittenString
string_of expected value = or_wanted expected value (as_string value.content)

-- the items of an array as values
abbrev pub values_of : Items → List Toml
values_of no_item = []
values_of (item span content more) = record { content = content; span = span } ∷ values_of more

-- what `take` leaves: the boolean false, at the same place
abbrev pub emptied_value : Toml → Toml
emptied_value value = record { content = boolean false; span = value.span }

-- a value of which a part was taken out, where it was of the kind
abbrev pub left_where : Bool → Toml → Toml
left_where taken value = if taken then emptied_value value else value

-- a value that was read is taken out whole; one that was refused stays as it was
abbrev pub left_by : {A : Type 0} → ShapeReading A → Toml → Toml
left_by (Ok x) value = emptied_value value
left_by (Err faults) value = value

-- a value that is a table of those entries now, at its place
abbrev pub given_back : Entries → Toml → Toml
given_back entries value = record { content = table entries; span = value.span }
