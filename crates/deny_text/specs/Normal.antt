-- The normal form of a text: every line ends with one LF, with no CR before it.
use Rattle.std.specs.Prelude.{◌≡◌, ℕ, Bool, true, false, ◌==◌, ◌||◌, ◌&&◌, List, [], ◌∷◌, ◌++◌, if◌then◌else◌}
use Rattle.std.specs.List.{flat_map}

-- the bytes LF and CR
abbrev pub line_feed : ℕ
line_feed = 10

abbrev pub carriage_return : ℕ
carriage_return = 13

-- the lines with the byte in front of the first
abbrev pub onto_line : ℕ → List (List ℕ) → List (List ℕ)
onto_line byte [] = (byte ∷ []) ∷ []
onto_line byte (line ∷ lines) = (byte ∷ line) ∷ lines

-- the text cut after each LF: a line holds its LF, which only the last may lack
abbrev pub lines_of : List ℕ → List (List ℕ)
lines_of [] = []
lines_of (byte ∷ bytes) = if byte == line_feed then (byte ∷ []) ∷ lines_of bytes else onto_line byte (lines_of bytes)

abbrev pub is_line_end : ℕ → Bool
is_line_end byte = byte == line_feed || byte == carriage_return

abbrev pub is_nothing : List ℕ → Bool
is_nothing [] = true
is_nothing (byte ∷ bytes) = false

-- the line without the CR and LF at its end
abbrev pub line_body : List ℕ → List ℕ
line_body [] = []
line_body (byte ∷ bytes) = if (is_line_end byte && is_nothing (line_body bytes)) then [] else byte ∷ line_body bytes

-- the line with one LF at its end, and no CR before that
abbrev pub normal_line : List ℕ → List ℕ
normal_line line = line_body line ++ line_feed ∷ []

-- the normal lines of the text, one after another; nothing for the empty text
unfoldable pub normal_of : List ℕ → List ℕ
normal_of text = flat_map normal_line (lines_of text)

-- the text with a CR before each LF
abbrev pub with_returns : List ℕ → List ℕ
with_returns text = flat_map (λ byte. if byte == line_feed then carriage_return ∷ line_feed ∷ [] else byte ∷ []) text

-- the normal form is normal
abbrev pub NormalIsNormal : Type 0
NormalIsNormal = (text : List ℕ) → normal_of (normal_of text) ≡ normal_of text

-- CR before each LF changes nothing in the normal form
abbrev pub NormalIgnoresReturns : Type 0
NormalIgnoresReturns = (text : List ℕ) → normal_of (with_returns text) ≡ normal_of text
