-- Files as a list. The number of a file is its place in the list, from 0.
use Rattle.std.specs.Prelude.{◌≡◌, ℕ, zero, suc, ◌&&◌, Bool, List, [], ◌∷◌, ◌++◌, slice_get, position, Option, Some}
use Rattle.std.specs.Prelude.{None, Result, Err}
use Rattle.std.specs.Option.{option_map}
use Rattle.std.specs.Ordering.{eq_by_cmp}
use Rattle.deny_text.specs.Path.{path_order}
use Rattle.diag_core.specs.declared.position.FilesErr.{FilesErr}
use Rattle.diag_core.specs.declared.position.FilesErr.TheVariants.{FileMissing}

-- a file: its name, its text, and whether its name is a path by which it is found
pub record File : Type 0 where
  pub name : List ℕ
  pub source : List ℕ
  pub has_path : Bool

-- the file with this text in place of its own
abbrev pub with_source : List ℕ → File → File
with_source source file = record file { source = source }

-- the files, with this text in that of the given number
abbrev pub with_source_at : List File → ℕ → List ℕ → List File
with_source_at [] id source = []
with_source_at (file ∷ files) zero source = with_source source file ∷ files
with_source_at (file ∷ files) (suc id) source = file ∷ with_source_at files id source

-- the text of the file of that number, where there is one
abbrev pub source_of_file : List File → ℕ → Option (List ℕ)
source_of_file files id = option_map (λ file. file.source) (slice_get files id)

-- the name of the file of that number, where there is one
abbrev pub name_of_file : List File → ℕ → Option (List ℕ)
name_of_file files id = option_map (λ file. file.name) (slice_get files id)

-- the file is found by the path: its own path has the same parts
abbrev pub is_at : List ℕ → File → Bool
is_at path file = file.has_path && eq_by_cmp path_order file.name path

-- the number of the file that is found by the path
abbrev pub file_id_at : List File → List ℕ → Option ℕ
file_id_at files path = position (is_at path) files

-- The files are those that were there, and others behind them: a file that is known keeps its number and its text.
abbrev pub Grows : List File → List File → Type 0
Grows files new = (more : List File) × (new ≡ files ++ more)

-- what is asked of a text, asked of the file of that number
abbrev pub asked_of_text : {T : Type 0} → Option (List ℕ) → (List ℕ → Result T FilesErr) → Result T FilesErr
asked_of_text None question = Err FileMissing
asked_of_text (Some text) question = question text
