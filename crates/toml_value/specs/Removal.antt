-- Entries that are taken out of a table.
use Rattle.std.specs.Prelude.{ℕ, if◌then◌else◌, List, [], ◌∷◌, Option, Some, None}
use Rattle.std.specs.Str.{bytes_eq}
use Rattle.toml_subset.specs.Data.{Entries, Toml, no_entry, entry}
use Rattle.toml_subset.specs.declared.string.Key.{Key}

-- the first entry of a name
abbrev pub entry_at : List ℕ → Entries → Option (Key × Toml)
entry_at name no_entry = None
entry_at name (entry key span content more) =
    if bytes_eq key.name.text name then Some (key, record { content = content; span = span }) else entry_at name more

-- the entries without that one, in their order
abbrev pub entries_without : List ℕ → Entries → Entries
entries_without name no_entry = no_entry
entries_without name (entry key span content more) =
    if bytes_eq key.name.text name then more else entry key span content (entries_without name more)

-- the names of the keys, in their order
abbrev pub names_in : Entries → List (List ℕ)
names_in no_entry = []
names_in (entry key span content more) = key.name.text ∷ names_in more
