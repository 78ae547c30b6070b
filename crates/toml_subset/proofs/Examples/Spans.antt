-- Values with their places, counted by hand from the rules on spans.
use Rattle.std.proofs.Common.{ℕ, List, pos, true, false, refl, codes}
use Rattle.toml_subset.specs.Data as «data»
use Rattle.toml_subset.specs.Data.{TomlContent, Items, Entries, Toml}
use Rattle.toml_subset.specs.Places.{from_to}
use Rattle.toml_subset.specs.Text.{IsText}
use Rattle.toml_subset.specs.Written.{WrittenString}
use Rattle.toml_subset.specs.declared.string.Key.{Key}
use Rattle.toml_subset.proofs.Law.Whole.{text_sound}

abbrev plain : List ℕ → WrittenString
plain s = record { text = s; escaped = false }

abbrev key : List ℕ → ℕ → ℕ → Key
key s from to = record { name = plain s; span = from_to from to }

abbrev root : Entries → ℕ → Toml
root entries to = record { content = data.table entries; span = from_to 0 to }

decimal_value : Toml
decimal_value = root (data.entry (key (codes "a") 0 1) (from_to 4 7) (data.decimal (pos 80)) data.no_entry) 7

decimal : IsText (codes "a = 0.8") decimal_value
unfolding decimal_value
decimal = text_sound (codes "a = 0.8") decimal_value refl

-- a key without its quotes; a string between its delimiters, behind the line end that is dropped
quoted_value : Toml
quoted_value = root (data.entry (key (codes "b c") 1 4) (from_to 12 13) (data.string (plain (codes "x"))) data.no_entry) 17

quoted : IsText (codes "'b c' = \"\"\"\nx\"\"\"\n") quoted_value
unfolding quoted_value
quoted = text_sound (codes "'b c' = \"\"\"\nx\"\"\"\n") quoted_value refl

-- a dotted table is at the key part that made it, an inline table from brace to brace, an array from bracket to bracket
inline_value : Toml
inline_value =
    root (data.entry (key (codes "a") 0 1) (from_to 0 1) (data.table
    (data.entry (key (codes "b") 2 3) (from_to 6 18) (data.table
    (data.entry (key (codes "c") 8 9) (from_to 8 9) (data.table
    (data.entry (key (codes "d") 10 11) (from_to 12 16) (data.array
    (data.item (from_to 13 14) (data.integer (pos 1)) data.no_item)) data.no_entry)) data.no_entry)) data.no_entry)) data.no_entry) 18

inline : IsText (codes "a.b = { c.d=[1,] }") inline_value
unfolding inline_value
inline = text_sound (codes "a.b = { c.d=[1,] }") inline_value refl

-- An implicit table takes the header that turns it into its own; its entry keeps the key part that first made it. A
-- header table is at its header with brackets.
header_value : Toml
header_value =
    root (data.entry (key (codes "a") 1 2) (from_to 6 9) (data.table
    (data.entry (key (codes "b") 3 4) (from_to 0 5) (data.table data.no_entry)
    (data.entry (key (codes "c") 10 11) (from_to 12 16) (data.boolean true) data.no_entry))) data.no_entry) 16

headers : IsText (codes "[a.b]\n[a]\nc=true") header_value
unfolding header_value
headers = text_sound (codes "[a.b]\n[a]\nc=true") header_value refl

-- an array of tables is at its first header, and each table at its own
array_value : Toml
array_value =
    root (data.entry (key (codes "t") 2 3) (from_to 0 5) (data.array
    (data.item (from_to 0 5) (data.table data.no_entry)
    (data.item (from_to 6 11) (data.table
    (data.entry (key (codes "u") 15 16) (from_to 15 16) (data.table
    (data.entry (key (codes "v") 17 18) (from_to 12 19) (data.table data.no_entry) data.no_entry)) data.no_entry)) data.no_item))) data.no_entry) 19

arrays : IsText (codes "[[t]]\n[[t]]\n[t.u.v]") array_value
unfolding array_value
arrays = text_sound (codes "[[t]]\n[[t]]\n[t.u.v]") array_value refl
