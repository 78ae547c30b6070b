-- A table of keys, row by row: the names of the keys, and what is wrong with the values at them.
use Rattle.std.specs.Prelude.{ℕ, Bool, true, not, ◌&&◌, List, [], ◌∷◌, ◌++◌, codes, map, Option, Some, None, is_some}
use Rattle.std.specs.Prelude.{Err, option_map}
use Rattle.std.specs.Str.{bytes_eq}
use Rattle.deny_text.specs.declared.span.Span.{Span}
use Rattle.toml_subset.specs.Data.{Entries, Toml}
use Rattle.toml_subset.specs.shapes.Shaped.{ShapeReading, shaped_then, shaped_of}
use Rattle.toml_subset.specs.shapes.Shapes.{ShapeFault, fault_alone, missing}
use Rattle.toml_value.specs.Lookup.{value_at}
use Rattle.toml_value.specs.Removal.{entry_at, entries_without, names_in}
use Rattle.toml_value.specs.Taken.{as_table, left_where, or_wanted}
use Rattle.policy_toml.specs.HelperState.{given_value, faults_of, unexpected_faults}

-- ---- rows

pub record KeyRow : Type 0 where
  pub name : List ℕ
  -- what is wrong with the value at the key, where it is there
  pub faults : Option Toml → List ShapeFault

-- a key whose value is read so
abbrev pub key : {A : Type 0} → List ℕ → (Toml → ShapeReading A) → KeyRow
key name reads = record { name = name; faults = λ value. faults_of (option_map reads value) }

-- a key that is passed over, whatever its value is
abbrev pub passed_key : List ℕ → KeyRow
passed_key name = record { name = name; faults = λ value. [] }

abbrev pub names_of_rows : List KeyRow → List (List ℕ)
names_of_rows rows = map (λ row. row.name) rows

-- what the key of a table stands for, where it is there and its value can be read
abbrev pub optional_value : {A : Type 0} → List ℕ → (Toml → ShapeReading A) → Entries → Option A
optional_value name reads entries = given_value (option_map reads (value_at name entries))

-- the place of a key, where it is there
abbrev pub key_span : List ℕ → Entries → Option Span
key_span name entries = option_map (λ found. found.0.span) (entry_at name entries)

-- ---- the faults of a table

-- what is wrong with the values, row by row
abbrev pub rows_faults : List KeyRow → Entries → List ShapeFault
rows_faults [] entries = []
rows_faults (row ∷ rows) entries = row.faults (value_at row.name entries) ++ rows_faults rows entries

-- the entries with other keys, in text order
abbrev pub entries_besides : List (List ℕ) → Entries → Entries
entries_besides [] entries = entries
entries_besides (name ∷ names) entries = entries_besides names (entries_without name entries)

-- Then the keys that no row names, as one fault of the table. The first names are those of keys that have to be there,
-- and were read.
abbrev pub table_faults : List (List ℕ) → List KeyRow → Entries → Span → List ShapeFault
table_faults needed rows entries span =
    rows_faults rows entries
    ++ unexpected_faults (names_in (entries_besides (needed ++ names_of_rows rows) entries)) span

-- ---- the shape of a table

-- what the keys stand for, where nothing is wrong with the table
abbrev pub shaped_by : {A : Type 0} → List (List ℕ) → List KeyRow → (Entries → A) → Entries → Span → ShapeReading A
shaped_by needed rows stands_for entries span = shaped_of (table_faults needed rows entries span) (stands_for entries)

-- a value that has to be a table
abbrev pub in_table : {A : Type 0} → (Entries → Span → ShapeReading A) → Toml → ShapeReading A
in_table reads value =
    shaped_then (λ entries. reads entries value.span) (or_wanted (codes "a table") value (as_table value.content))

-- What is left of such a value: the boolean false where it is a table, else the value as it was.
abbrev pub left_of_table : Toml → Toml
left_of_table value = left_where (is_some (as_table value.content)) value

-- A key that has to be there. Where it is missing or its value is refused, the table ends.
abbrev pub needed_at : {A : Type 0} → List ℕ → Span → Option (ShapeReading A) → ShapeReading A
needed_at name span None = Err (fault_alone (missing name) span)
needed_at name span (Some read) = read

abbrev pub required_value : {A : Type 0} → List ℕ → (Toml → ShapeReading A) → Entries → Span → ShapeReading A
required_value name reads entries span = needed_at name span (option_map reads (value_at name entries))

-- ---- names that differ

abbrev pub is_besides : List ℕ → List (List ℕ) → Bool
is_besides name [] = true
is_besides name (other ∷ more) = not (bytes_eq name other) && is_besides name more

-- no name is there twice
abbrev pub are_apart : List (List ℕ) → Bool
are_apart [] = true
are_apart (name ∷ names) = is_besides name names && are_apart names
