-- The numbers of files by the keys of their paths.
use Rattle.std.specs.Prelude.{◌≡◌, ℕ, List}
use Rattle.std.specs.FinMap.{get}
use Rattle.deny_text.specs.Path.{key_of}
use Rattle.deny_text.specs.TextMap.{TextMapTo}
use Rattle.diag_core.specs.File.{File, file_id_at}

-- a map from keys to numbers
abbrev pub PathIds : Type 0
PathIds = TextMapTo ℕ

-- the map gives the key of each path the number of the file that is found by the path
abbrev pub Finds : PathIds → List File → Type 0
Finds ids files = (path : List ℕ) → get ids (key_of path) ≡ file_id_at files path
