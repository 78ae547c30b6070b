-- Characters of a text, counted by blocks of 256 bytes.
use Rattle.std.specs.Prelude.{◌≡◌, ℕ, ◌+◌, ◌*◌, ◌/◌, ◌≤◌, List, length, take, slice_index, count_by}
use Rattle.std.specs.Prelude.{Option}
use Rattle.std.specs.Option.{ForSome}
use Rattle.diag_core.specs.declared.line_index.LineIndex.{LineIndex}
use Rattle.diag_core.specs.Position.{begins_character, line_starts}

-- so many characters are before each block, and before the rest behind the last
pub record CountsBlocks (text counts : List ℕ) : Type 0 where
  pub all : length counts ≡ length text / 256 + 1
  pub each : (block : ℕ) → block * 256 ≤ length text
      → slice_index counts block ≡ count_by begins_character (take (block * 256) text)

-- where the lines of the text start, and how many characters are before its blocks
pub record IsIndexOf (text starts counts : List ℕ) : Type 0 where
  pub lines : starts ≡ line_starts text
  pub blocks : CountsBlocks text counts

-- the same of an index that the code keeps
abbrev pub Indexes : LineIndex → List ℕ → Type 0
Indexes index text = IsIndexOf text index.line_starts.items index.character_counts.items

-- an index that is there is that of the text
abbrev pub IsIndexed : Option LineIndex → List ℕ → Type 0
IsIndexed index text = ForSome index (λ index. Indexes index text)
