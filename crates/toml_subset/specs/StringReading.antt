-- Strings and keys, read from left to right.
use Rattle.std.specs.Prelude.{ℕ, zero, suc, ◌+◌, Bool, ◌||◌, ◌&&◌, ◌==◌, nat_le, nat_lt, if◌then◌else◌, false, List, []}
use Rattle.std.specs.Prelude.{◌∷◌, Some, None, Ok, Err, length, take, drop}
use Rattle.std.specs.List.{prefix_len}
use Rattle.deny_text.specs.declared.span.Span.{Span}
use Rattle.toml_subset.specs.Answer.{TomlReading, fault_at, stop_error, then_read}
use Rattle.toml_subset.specs.Bytes.{quote, apostrophe, backslash, dot, equals, is_bare}
use Rattle.toml_subset.specs.Numbers.{is_digit_in}
use Rattle.toml_subset.specs.Places.{from_to, passes_at, stands, run_end, run_at, after_blanks, char_end}
use Rattle.toml_subset.specs.Strings.{Quoting, mark_of, is_long, has_escapes, marks_in_row, opening, StringPiece}
use Rattle.toml_subset.specs.Strings.{StringPart, piece, closing, broken, part_at, written_of}
use Rattle.toml_subset.specs.Written.{WrittenString}
use Rattle.toml_subset.specs.declared.error.SyntaxError.{SyntaxError}
use Rattle.toml_subset.specs.declared.error.SyntaxReason.TheVariants.{InvalidEscape, ControlCharacter}
use Rattle.toml_subset.specs.declared.string.Key.{Key}

-- An escape of so many hexadecimal digits goes wrong at the first character that is none, or with all of them.
abbrev pub scalar_fault : ℕ → List ℕ → ℕ → SyntaxError
scalar_fault digits text i =
    let found = prefix_len (is_digit_in 16) (take digits (drop (i + 2) text)) in
    if found == digits then fault_at InvalidEscape i (i + 2 + digits)
    else (if nat_lt (i + 2 + found) (length text) then fault_at InvalidEscape i (char_end text (i + 2 + found))
    else stop_error text (length text))

-- whether the text ends before an escape does: behind the backslash, or behind the blanks that follow it in a long
-- string
abbrev pub escape_is_cut : Quoting → List ℕ → ℕ → Bool
escape_is_cut kind text i = (i + 1 == length text) || (is_long kind && (after_blanks text (i + 1) == length text))

abbrev pub escape_fault : Quoting → List ℕ → ℕ → SyntaxError
escape_fault kind text i =
    if stands text (i + 1) 117 then scalar_fault 4 text i
    else (if stands text (i + 1) 85 then scalar_fault 8 text i
    else (if escape_is_cut kind text i then stop_error text (length text)
    else fault_at InvalidEscape i (char_end text (i + 1))))

-- What breaks a string at a place: a sixth mark in a row, an escape, a character that may not are in it, or the text's
-- end.
abbrev pub part_fault : Quoting → List ℕ → ℕ → SyntaxError
part_fault kind text i =
    if stands text i (mark_of kind) then stop_error text (i + 5)
    else (if has_escapes kind && stands text i backslash then escape_fault kind text i
    else (if nat_lt i (length text) then fault_at ControlCharacter i (i + 1) else stop_error text i))

-- the pieces of a string up to its closing, the closing's place, and the place behind it
abbrev pub Pieces : Type 0
Pieces = List StringPiece × ℕ × ℕ

abbrev pub after_part : Quoting → List ℕ → ℕ → (ℕ → TomlReading Pieces) → StringPart → TomlReading Pieces
after_part kind text i rest (piece p next) = then_read (λ (r : Pieces). Ok (p ∷ r.0, r.1, r.2)) (rest next)
after_part kind text i rest (closing next) = Ok ([], i, next)
after_part kind text i rest broken = Err (part_fault kind text i)

-- The number bounds how often reading calls itself, here and below. A larger one than is given changes no answer.
abbrev pub read_pieces : ℕ → Quoting → List ℕ → ℕ → TomlReading Pieces
read_pieces zero kind text i = Err (stop_error text i)
read_pieces (suc n) kind text i = after_part kind text i (read_pieces n kind text) (part_at kind text i)

-- a string, its span between the delimiters, and the place behind it
abbrev pub StringFound : Type 0
StringFound = WrittenString × Span × ℕ

abbrev pub string_from : List ℕ → Quoting × ℕ → TomlReading StringFound
string_from text first =
    then_read (λ (r : Pieces). Ok (written_of r.0, from_to first.1 r.1, r.2))
    (read_pieces (suc (length text)) first.0 text first.1)

abbrev pub read_string : List ℕ → ℕ → TomlReading StringFound
read_string text i = elim (opening text i) [ Some first ↦ string_from text first | None ↦ Err (stop_error text i) ]

abbrev pub begins_long : List ℕ → ℕ → Bool
begins_long text i = nat_le 3 (marks_in_row quote text i) || nat_le 3 (marks_in_row apostrophe text i)

abbrev pub KeyFound : Type 0
KeyFound = Key × ℕ

abbrev pub bare_key : List ℕ → ℕ → KeyFound
bare_key text i = (
  record { name = record { text = run_at is_bare text i; escaped = false }; span = from_to i (run_end is_bare text i) },
  run_end is_bare text i,
)

-- three marks begin no key
abbrev pub quoted_key : List ℕ → ℕ → TomlReading KeyFound
quoted_key text i =
    if begins_long text i then Err (stop_error text (i + 2))
    else then_read (λ (r : StringFound). Ok (record { name = r.0; span = r.1 }, r.2)) (read_string text i)

-- a part of a key
abbrev pub read_key : List ℕ → ℕ → TomlReading KeyFound
read_key text i = if passes_at is_bare text i then Ok (bare_key text i) else quoted_key text i

abbrev pub KeysFound : Type 0
KeysFound = List Key × ℕ

-- further parts, where a dot follows
abbrev pub keys_behind : (ℕ → TomlReading KeysFound) → List ℕ → KeyFound → TomlReading KeysFound
keys_behind rest text key =
    if stands text (after_blanks text key.1) dot
    then then_read (λ (more : KeysFound). Ok (key.0 ∷ more.0, more.1))
    (rest (after_blanks text (after_blanks text key.1 + 1)))
    else Ok (key.0 ∷ [], key.1)

abbrev pub read_keys : ℕ → List ℕ → ℕ → TomlReading KeysFound
read_keys zero text i = Err (stop_error text i)
read_keys (suc n) text i = then_read (keys_behind (read_keys n text) text) (read_key text i)

-- all parts of a key
abbrev pub keys_at : List ℕ → ℕ → TomlReading KeysFound
keys_at text = read_keys (suc (length text)) text

-- the parts of a key, `=`, and the value's place
abbrev pub equals_behind : List ℕ → KeysFound → TomlReading KeysFound
equals_behind text keys =
    if stands text (after_blanks text keys.1) equals then Ok (keys.0, after_blanks text (after_blanks text keys.1 + 1))
    else Err (stop_error text (after_blanks text keys.1))

abbrev pub read_left : List ℕ → ℕ → TomlReading KeysFound
read_left text i = then_read (equals_behind text) (keys_at text i)
