-- The words of a text, by which the exact identifier tells texts apart.
use Rattle.std.specs.Prelude.{ℕ, ◌==◌, Bool, true, false, not, ◌&&◌, ◌||◌, List, [], ◌∷◌, ◌++◌, map, filter, codes}
use Rattle.std.specs.Prelude.{if◌then◌else◌}
use Rattle.std.specs.Char.{is_ascii_alphanumeric, is_ascii_digit}
use Rattle.std.specs.Str.{bytes_eq, str_to_ascii_lowercase}
use Rattle.std.specs.List.{flat_map, list_all, slice_split}

-- LF, which ends a line
abbrev pub is_line_end : ℕ → Bool
is_line_end byte = byte == 10

-- no part of a word, which are ASCII letters and digits
abbrev pub is_between : ℕ → Bool
is_between byte = not (is_ascii_alphanumeric byte)

abbrev pub has_some : List ℕ → Bool
has_some [] = false
has_some (byte ∷ bytes) = true

-- the longest runs of ASCII letters and digits
abbrev pub runs_of : List ℕ → List (List ℕ)
runs_of line = filter has_some (slice_split is_between line)

-- the runs in lower case
abbrev pub lower_of : List (List ℕ) → List (List ℕ)
lower_of runs = map str_to_ascii_lowercase runs

-- the first word is `copyright`, and the second is `c` or all digits
abbrev pub is_copyright : List (List ℕ) → Bool
is_copyright [] = false
is_copyright (first ∷ []) = false
is_copyright (first ∷ second ∷ rest) =
    bytes_eq first (codes "copyright") && (bytes_eq second (codes "c") || list_all is_ascii_digit second)

-- these words; none where they tell of a copyright
abbrev pub words_kept : List (List ℕ) → List (List ℕ)
words_kept words = if is_copyright words then [] else words

-- the words of a line that count
abbrev pub line_words : List ℕ → List (List ℕ)
line_words line = words_kept (lower_of (runs_of line))

-- the words of all lines
abbrev pub words_of : List ℕ → List (List ℕ)
words_of text = flat_map line_words (slice_split is_line_end text)

-- the words with a space after each
abbrev pub words_with_spaces : List (List ℕ) → List ℕ
words_with_spaces words = flat_map (λ word. word ++ codes " ") words
