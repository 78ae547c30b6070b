-- What a file is called, as a text.
use Rattle.std.specs.Prelude.{ℕ, List, Bool, true, false}
use Rattle.diag_core.specs.declared.source_file.FileName.{FileName}
use Rattle.diag_core.specs.declared.source_file.FileName.TheVariants.{Path, Label}

-- the path or the name, as its text
abbrev pub name_text : FileName → List ℕ
name_text (Path path) = path
name_text (Label text) = text

-- the name is a path by which the file is found
abbrev pub is_path : FileName → Bool
is_path (Path path) = true
is_path (Label text) = false
