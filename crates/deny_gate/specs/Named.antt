-- The paths that the words of a process name. A pipe or a device is read at these alone.
use Rattle.std.specs.Prelude.{ℕ, Bool, List, ◌∷◌, Option, ◌+◌, ◌==◌, map, drop, flat_map, position, option_map}
use Rattle.std.specs.Prelude.{option_to_list}
use Rattle.deny_text.specs.Path.{join_of}

-- the byte `=`
abbrev pub is_equals : ℕ → Bool
is_equals byte = byte == 61

-- what is behind the first `=` of a word, where it has one, as the value of an option does
abbrev pub value_in : List ℕ → Option (List ℕ)
value_in word = option_map (λ at. drop (at + 1) word) (position is_equals word)

-- a word names itself and its value, each as a path from the folder on
abbrev pub paths_in : List ℕ → List ℕ → List (List ℕ)
paths_in folder word = map (join_of folder) (word ∷ option_to_list (value_in word))

-- the paths that the words name, word by word
abbrev pub paths_named : List (List ℕ) → List ℕ → List (List ℕ)
paths_named words folder = flat_map (paths_in folder) words
