-- What is known between two lines of a text, and of a line that is read.
use Rattle.std.specs.Prelude.{◌≡◌, ℕ, ◌+◌, ◌<◌, ◌≤◌, suc, if◌then◌else◌, List, length}
use Rattle.toml_subset.specs.Answer.{TomlReading, then_read}
use Rattle.toml_subset.specs.Bytes.{open_bracket}
use Rattle.toml_subset.specs.Lines.{Document, no_lines}
use Rattle.toml_subset.specs.Places.{stands, after_blanks}
use Rattle.toml_subset.specs.Reading.{LineFound, header_from, array_header_from, read_lines}
use Rattle.toml_subset.specs.StringReading.{keys_at}
use Rattle.toml_subset.specs.frames.Levels.{Cursor, IsWay}

-- Lines were read up to a place: what is left to read leads to the whole answer.
pub record AreLinesRead (text : List ℕ) (c : Cursor) (i : ℕ) : Type 0 where
  pub document : Document
  pub left : ℕ
  pub way : IsWay document c
  pub room : length text < i + left
  pub within : i ≤ length text
  pub is : read_lines (suc (length text)) text 0 no_lines ≡ read_lines left text i document

-- a line whose first character is a bracket
abbrev pub bracket_line : List ℕ → Document → ℕ → TomlReading LineFound
bracket_line text document i =
    if stands text (i + 1) open_bracket
    then then_read (array_header_from text i document) (keys_at text (after_blanks text (i + 2)))
    else then_read (header_from text i document) (keys_at text (after_blanks text (i + 1)))
