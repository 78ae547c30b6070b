-- Lines and columns of a text. A line ends with its line feed, so a text has one more line than line feeds.
use Rattle.std.specs.Prelude.{ℕ, suc, ◌+◌, ◌-◌, ◌==◌, ◌||◌, ◌&&◌, not, Bool, List, [], ◌∷◌, length, take, slice_index}
use Rattle.std.specs.Prelude.{slice_index_or, slice_range, count_by, nat_lt, nat_le, if◌then◌else◌, Result, Ok, Err}
use Rattle.deny_text.specs.declared.span.Span.{Span}
use Rattle.diag_core.specs.declared.position.Location.{Location}
use Rattle.diag_core.specs.declared.position.FilesErr.{FilesErr}
use Rattle.diag_core.specs.declared.position.FilesErr.TheVariants.{IndexTooLarge, InvalidCharBoundary, LineTooLarge}

-- the byte ends a line
abbrev pub is_line_feed : ℕ → Bool
is_line_feed byte = byte == 10

-- how many line feeds are before the place
abbrev pub line_of : List ℕ → ℕ → ℕ
line_of text place = count_by is_line_feed (take place text)

-- one more than the line feeds
abbrev pub line_count : List ℕ → ℕ
line_count text = count_by is_line_feed text + 1

-- the places behind each line feed, in a text whose first byte is at the place
abbrev pub places_behind_line_feeds : ℕ → List ℕ → List ℕ
places_behind_line_feeds place [] = []
places_behind_line_feeds place (byte ∷ text) =
    if is_line_feed byte then (suc place ∷ places_behind_line_feeds (suc place) text)
    else places_behind_line_feeds (suc place) text

-- the places at which the lines start: the start of the text, and behind each line feed
unfoldable pub line_starts : List ℕ → List ℕ
line_starts text = 0 ∷ places_behind_line_feeds 0 text

-- where the line starts
abbrev pub line_start : List ℕ → ℕ → ℕ
line_start text line = slice_index (line_starts text) line

-- where the next line starts; for the last line the end of the text
abbrev pub line_end : List ℕ → ℕ → ℕ
line_end text line = slice_index_or (line_starts text) (line + 1) (length text)

-- the byte begins a character (RFC 3629, section 3: the others are 128 to 191)
abbrev pub begins_character : ℕ → Bool
begins_character byte = nat_lt byte 128 || nat_le 192 byte

-- the place is inside a character: neither at its first byte nor at the end of the text
abbrev pub is_inside_character : List ℕ → ℕ → Bool
is_inside_character text place = nat_lt place (length text) && not (begins_character (slice_index text place))

-- how many characters are between the start of the place's line and the place
abbrev pub column_of : List ℕ → ℕ → ℕ
column_of text place = count_by begins_character (slice_range text (line_start text (line_of text place)) place)

-- the line with its line feed, where there are so many lines
abbrev pub line_range_of : ℕ → List ℕ → Result Span FilesErr
line_range_of line text =
    if nat_lt line (line_count text) then Ok (record { start = line_start text line; end = line_end text line })
    else Err (LineTooLarge line (line_count text))

-- the line and the column of the place, unless it is past the text or inside a character
abbrev pub location_of : ℕ → List ℕ → Result Location FilesErr
location_of place text =
    if nat_lt (length text) place then Err (IndexTooLarge place (length text - 1))
    else (if is_inside_character text place then Err (InvalidCharBoundary place)
    else Ok (record { line = line_of text place; column = column_of text place }))
