-- What is in a value at a key, at a place, and along a path of both.
use Rattle.std.specs.Prelude.{ℕ, zero, suc, ◌^◌, Bool, true, false, ◌&&◌, ◌==◌, nat_lt, if◌then◌else◌, List, [], ◌∷◌}
use Rattle.std.specs.Prelude.{Option, Some, None, option_and_then}
use Rattle.std.specs.List.{slice_split}
use Rattle.std.specs.Str.{bytes_eq}
use Rattle.toml_subset.specs.Data.{TomlContent, Items, Entries, Toml, string, integer, decimal, boolean, array, table}
use Rattle.toml_subset.specs.Data.{no_item, item, no_entry, entry}
use Rattle.toml_subset.specs.Numbers.{is_whole, are_digits, count}
use Rattle.toml_subset.specs.declared.string.Key.{Key}

-- the text of a string
abbrev pub as_text : TomlContent → Option (List ℕ)
as_text (string w) = Some w.text
as_text (integer z) = None
as_text (decimal z) = None
as_text (boolean b) = None
as_text (array items) = None
as_text (table entries) = None

-- whether it is a table with a key
abbrev pub has_entries : TomlContent → Bool
has_entries (string w) = false
has_entries (integer z) = false
has_entries (decimal z) = false
has_entries (boolean b) = false
has_entries (array items) = false
has_entries (table no_entry) = false
has_entries (table (entry key span content more)) = true

-- the value at a key, by the text that the key stands for
abbrev pub value_at : List ℕ → Entries → Option Toml
value_at name no_entry = None
value_at name (entry key span content more) =
    if bytes_eq key.name.text name then Some (record { content = content; span = span }) else value_at name more

-- the item at a place from 0
abbrev pub item_at : ℕ → Items → Option Toml
item_at i no_item = None
item_at zero (item span content more) = Some (record { content = content; span = span })
item_at (suc i) (item span content more) = item_at i more

-- the place that decimal digits name, with no zero before others
abbrev pub index_of_digits : List ℕ → Option ℕ
index_of_digits s =
    if are_digits s && is_whole s && nat_lt (count 10 s) (2 ^ 64) then Some (count 10 s) else None

-- what one part of a path leads to: a key of a table, or a place of an array
abbrev pub step_to : List ℕ → TomlContent → Option Toml
step_to part (string w) = None
step_to part (integer z) = None
step_to part (decimal z) = None
step_to part (boolean b) = None
step_to part (array items) = option_and_then (λ i. item_at i items) (index_of_digits part)
step_to part (table entries) = value_at part entries

abbrev pub steps_to : List (List ℕ) → Toml → Option Toml
steps_to [] value = Some value
steps_to (part ∷ more) value = option_and_then (steps_to more) (step_to part value.content)

-- Each `/` of a path is before a key or a place. The empty path leads to the value itself.
abbrev pub pointed_at : List ℕ → Toml → Option Toml
pointed_at [] value = Some value
pointed_at (c ∷ cs) value = if c == 47 then steps_to (slice_split (λ b. b == 47) cs) value else None

-- a further item, and a further entry, at the end
abbrev pub with_item : Items → Toml → Items
with_item no_item x = item x.span x.content no_item
with_item (item span content more) x = item span content (with_item more x)

abbrev pub with_entry : Entries → Key → Toml → Entries
with_entry no_entry new x = entry new x.span x.content no_entry
with_entry (entry key span content more) new x = entry key span content (with_entry more new x)
