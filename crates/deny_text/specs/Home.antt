-- Cargo's home folder, by the environment.
use Rattle.std.specs.Prelude.{ℕ, List, [], ◌∷◌, Option, Some, None, codes}
use Rattle.std.specs.Option.{option_map}
use Rattle.deny_text.specs.Path.{join_of}

-- `.cargo` in the home folder, where there is one
abbrev pub dot_cargo_of : Option (List ℕ) → Option (List ℕ)
dot_cargo_of home = option_map (λ folder. join_of folder (codes ".cargo")) home

-- a value that is not empty, joined to the current folder; else `.cargo` in the home folder, where there is one
abbrev pub cargo_home_of : Option (List ℕ) → Option (List ℕ) → List ℕ → Option (List ℕ)
cargo_home_of home (Some (byte ∷ bytes)) cwd = Some (join_of cwd (byte ∷ bytes))
cargo_home_of home (Some []) cwd = dot_cargo_of home
cargo_home_of home None cwd = dot_cargo_of home
