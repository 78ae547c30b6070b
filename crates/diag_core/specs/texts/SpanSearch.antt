-- Where a text writes the value of a licence field.
use Rattle.std.specs.Prelude.{ℕ, ◌-◌, ◌||◌, ◌==◌, nat_lt, Bool, List, [], ◌∷◌, length, codes, Option, None, Some}
use Rattle.std.specs.Prelude.{if◌then◌else◌}
use Rattle.std.specs.List.{position_or_len}
use Rattle.std.specs.Option.{option_and_then, option_map, option_or}
use Rattle.std.specs.Str.{trim_start}
use Rattle.deny_text.specs.Spans.{moved_span}
use Rattle.deny_text.specs.declared.span.Span.{Span}

-- what follows the front, where the text begins with it
abbrev pub rest_behind : List ℕ → List ℕ → Option (List ℕ)
rest_behind [] text = Some text
rest_behind (byte ∷ front) [] = None
rest_behind (byte ∷ front) (first ∷ rest) = if first == byte then rest_behind front rest else None

-- `"` or `'`
abbrev pub is_quote : ℕ → Bool
is_quote byte = byte == 34 || byte == 39

-- what follows the quote that the text begins with
abbrev pub behind_quote : List ℕ → Option (List ℕ)
behind_quote [] = None
behind_quote (byte ∷ rest) = if is_quote byte then Some rest else None

-- the place of the first quote
abbrev pub quote_place : List ℕ → Option ℕ
quote_place text =
    if nat_lt (position_or_len is_quote text) (length text) then Some (position_or_len is_quote text) else None

abbrev pub license_key : List ℕ
license_key = codes "license"

-- the value that a text ends with, up to the first quote in it
abbrev pub value_at_end : List ℕ → List ℕ → Option Span
value_at_end text value =
    option_map (λ len. moved_span (length text - length value) (record { start = 0; end = len })) (quote_place value)

-- behind a key: white space, `=`, white space, a quote, the value, a quote; the place of the value
unfoldable pub value_behind : List ℕ → Option Span
value_behind text =
    option_and_then (λ after. option_and_then (value_at_end text) (behind_quote (trim_start after)))
    (rest_behind (codes "=") (trim_start text))

-- the same of a key that the text begins with
abbrev pub value_here : List ℕ → Option Span
value_here text =
    option_and_then (λ rest. option_map (moved_span (length license_key)) (value_behind rest))
    (rest_behind license_key text)

-- the place of the value of the first key that has one
abbrev pub license_span_of : List ℕ → Option Span
license_span_of [] = None
license_span_of (byte ∷ rest) = option_or (value_here (byte ∷ rest)) (option_map (moved_span 1) (license_span_of rest))
