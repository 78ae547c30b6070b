-- Places of a text in which each slash was replaced by ` OR `, reported as places of the text with the slashes.
use Rattle.std.specs.Prelude.{ℕ, ◌+◌, ◌-◌, ◌*◌, ◌==◌, nat_lt, nat_le, List, [], ◌∷◌, length, max, if◌then◌else◌}
use Rattle.deny_text.specs.declared.span.Span.{Span}

-- the places of the slashes, where the text begins at this place
abbrev pub slashes_from : ℕ → List ℕ → List ℕ
slashes_from place [] = []
slashes_from place (byte ∷ rest) =
    if byte == 47 then place ∷ slashes_from (place + 1) rest else slashes_from (place + 1) rest

abbrev pub slashes_of : List ℕ → List ℕ
slashes_of text = slashes_from 0 text

-- where the replacement of slash number n at this place begins: each slash before it has made the text three bytes
-- longer
abbrev pub replaced_at : ℕ → ℕ → ℕ
replaced_at number place = place + 3 * number

-- the slashes whose replacement begins at or before the start, where the first of the places is that of slash number n
abbrev pub passed_from : ℕ → ℕ → List ℕ → List ℕ
passed_from number start [] = []
passed_from number start (place ∷ places) =
    if nat_le (replaced_at number place) start then place ∷ passed_from (number + 1) start places
    else passed_from (number + 1) start places

abbrev pub passed_of : ℕ → List ℕ → List ℕ
passed_of start text = passed_from 0 start (slashes_of text)

-- each end less three for each slash that was passed
abbrev pub moved_back : ℕ → Span → Span
moved_back count span = record { start = span.start - 3 * count; end = span.end - 3 * count }

-- from the slash on, for a start inside its replacement, which was the last of so many
abbrev pub from_slash : ℕ → ℕ → Span → Span
from_slash count slash span = record { start = slash; end = max (slash + 1) (span.end - 3 * count) }

-- by the number of the slashes passed and the last of them: a replacement is four bytes long
abbrev pub corrected_by : ℕ → ℕ → Span → Span
corrected_by count last span =
    if nat_lt span.start (replaced_at (count - 1) last + 4) then from_slash count last span else moved_back count span

abbrev pub last_of : ℕ → List ℕ → ℕ
last_of other [] = other
last_of other (place ∷ places) = last_of place places

abbrev pub corrected_after : List ℕ → Span → Span
corrected_after [] span = span
corrected_after (place ∷ places) span = corrected_by (length (place ∷ places)) (last_of place places) span

unfoldable pub span_in_manifest : List ℕ → Span → Span
span_in_manifest text span = corrected_after (passed_of span.start text) span
