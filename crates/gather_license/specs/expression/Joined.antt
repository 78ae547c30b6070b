-- A text that names are joined to, one after another.
use Rattle.std.specs.Prelude.{◌≡◌, ℕ, Bool, true, false, List, [], ◌∷◌, Option, Some, None}
use Rattle.std.specs.Option.{option_to_list}
use Rattle.gather_license.specs.declared.expression.files.ScannedFile.{ScannedFile}
use Rattle.gather_license.specs.expression.Scanned.{joined_name}
use Rattle.gather_license.specs.expression.Taken.{joined_text}

abbrev pub has_some : List (List ℕ) → Bool
has_some [] = false
has_some (name ∷ names) = true

-- the name that a file gives, if it gives one
abbrev pub given_by : ScannedFile → List (List ℕ)
given_by file = option_to_list (joined_name file.scanned)

-- a text is made of the names, and whether there is one is known
pub record IsJoined (names : List (List ℕ)) (text : List ℕ) (some : Bool) : Type 0 where
  pub is : text ≡ joined_text names
  pub known : some ≡ has_some names
