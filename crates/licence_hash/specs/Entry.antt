-- The entry of a file, as a clarification takes it: its path as a string of TOML, and the hash of its normal form.
use Rattle.std.specs.Prelude.{ℕ, Bool, nat_lt, ◌==◌, ◌||◌, List, [], ◌∷◌, ◌++◌, codes, flat_map, if◌then◌else◌}
use Rattle.deny_text.specs.Hash.{xxh32_of}
use Rattle.deny_text.specs.Normal.{normal_of}
use Rattle.diag_core.specs.texts.Manifest.{padded_digits, hash_text}

-- a byte that is in a basic string by an escape alone: a control character, the quote and the backslash (TOML 1.0:
-- String)
abbrev pub is_special : ℕ → Bool
is_special byte = nat_lt byte 32 || byte == 34 || byte == 92 || byte == 127

-- a byte in a string
abbrev pub in_string : ℕ → List ℕ
in_string byte = if is_special byte then codes "\\u00" ++ padded_digits 16 2 byte else byte ∷ []

-- the string that means a text
unfoldable pub string_of : List ℕ → List ℕ
string_of text = codes "\"" ++ flat_map in_string text ++ codes "\""

-- the entry, a line
abbrev pub entry_of : List ℕ → List ℕ → List ℕ
entry_of path text =
    codes "{ path = " ++ string_of path ++ codes ", hash = 0x" ++ hash_text (xxh32_of (normal_of text)) ++ codes " },\n"
