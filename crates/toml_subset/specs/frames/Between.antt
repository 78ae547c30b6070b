-- Where an array and an inline table go on: closed, up to a place, or with a further item or entry at a place.
use Rattle.std.specs.Prelude.{ℕ, ◌+◌, if◌then◌else◌, List, Ok, Err}
use Rattle.toml_subset.specs.Answer.{TomlReading, stop_error}
use Rattle.toml_subset.specs.Bytes.{comma, close_bracket, close_brace}
use Rattle.toml_subset.specs.Places.{stands, after_blanks, after_space}
use Rattle.toml_subset.specs.Reading.{cut_in_comment, space_fault}
use Rattle.toml_subset.specs.declared.frames.between.Next.{Next}
use Rattle.toml_subset.specs.declared.frames.between.Next.TheVariants.{Closed, Further}

abbrev pub next_place : Next → ℕ
next_place (Closed i) = i
next_place (Further i) = i

-- behind an array's opening or a comma in it
abbrev pub item_place : List ℕ → ℕ → TomlReading Next
item_place text i =
    let j = after_space text i in
    if cut_in_comment text i then Err (space_fault text i)
    else (if stands text j close_bracket then Ok (Closed (j + 1)) else Ok (Further j))

abbrev pub behind_item : List ℕ → ℕ → TomlReading Next
behind_item text i =
    let j = after_space text i in
    if stands text j close_bracket then Ok (Closed (j + 1))
    else (if stands text j comma then item_place text (j + 1) else Err (space_fault text i))

-- behind an inline table's opening
abbrev pub entry_place : List ℕ → ℕ → Next
entry_place text i = let j = after_blanks text i in if stands text j close_brace then Closed (j + 1) else Further j

abbrev pub behind_entry : List ℕ → ℕ → TomlReading Next
behind_entry text i =
    let j = after_blanks text i in
    if stands text j close_brace then Ok (Closed (j + 1))
    else (if stands text j comma then Ok (Further (after_blanks text (j + 1))) else Err (stop_error text j))
