-- What a search in the starts of the lines finds, and how a search for a start moves on by a byte.
use Rattle.std.specs.Prelude.{◌≡◌, ℕ, ◌+◌, ◌-◌, ◌<◌, ◌≤◌, ◌&&◌, nat_lt, List, if◌then◌else◌}
use Rattle.diag_core.specs.declared.line_scan.LineSearch.{LineSearch}
use Rattle.diag_core.specs.Position.{line_of, line_count, line_start, is_line_feed}

-- so many lines start at or before the place: its own line is the last of them
pub record FoundLine (text : List ℕ) (place count : ℕ) : Type 0 where
  pub some : 0 < count
  pub within : count ≤ line_count text
  pub line : line_of text place + 1 ≡ count
  pub start : line_start text (count - 1) ≤ place

-- a line that is still to come starts behind a line feed
abbrev pub search_after : LineSearch → ℕ → ℕ → LineSearch
search_after search place byte =
    if nat_lt 0 search.left && is_line_feed byte then record { start = place + 1; left = search.left - 1 } else search
