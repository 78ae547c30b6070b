-- Names that stand for themselves among paths.
use Rattle.std.specs.Prelude.{ℕ, ◌==◌, Bool, false, not, ◌&&◌, List, slice_get}
use Rattle.std.specs.List.{list_any}
use Rattle.std.specs.Option.{option_map_or}
use Rattle.std.specs.Path.{dot, slash}

-- a path that is neither empty nor begins with a `.`, and has no slash
abbrev pub is_plain : List ℕ → Bool
is_plain path =
    option_map_or (λ first. not (first == dot)) (slice_get path 0) false && not (list_any (λ byte. byte == slash) path)
