-- What is noted of licence files, and which of them give a name.
use Rattle.std.specs.Prelude.{ℕ, Bool, List, [], ◌∷◌, ◌++◌, codes, Option, option_map, if◌then◌else◌}
use Rattle.std.specs.List.{filter_map}
use Rattle.gather_license.specs.declared.expression.files.FileResult.{FileResult}
use Rattle.gather_license.specs.declared.expression.files.FileResult.TheVariants.{Bad, Unnamed, Low, Unknown, Joined}
use Rattle.gather_license.specs.declared.expression.files.ScannedFile.{ScannedFile}
use Rattle.gather_license.specs.expression.Scanned.{joined_name}

-- the paths of the files that give a name
abbrev pub path_given : ScannedFile → Option (List ℕ)
path_given file = option_map (λ name. file.path) (joined_name file.scanned)

abbrev pub paths_given : List ScannedFile → List (List ℕ)
paths_given files = filter_map path_given files

-- ---- what is noted

abbrev pub renamed_note : List ℕ → Bool → List (List ℕ)
renamed_note path renamed =
    if renamed
    then (codes "'" ++ path ++ codes "' fuzzy matched to Pixar license, but it is actually a normal Apache-2.0 license")
    ∷ [] else []

abbrev pub deprecated_note : List ℕ → List ℕ → Bool → List (List ℕ)
deprecated_note path name deprecated =
    if deprecated
    then (codes "license '" ++ name ++ codes "' detected in '" ++ path ++ codes "' is deprecated in the catalogue") ∷ []
    else []

-- a name in place of `Pixar` is noted whatever comes of it, a deprecated name where it is joined
abbrev pub notes_by : List ℕ → FileResult → List (List ℕ)
notes_by path (Bad error) = []
notes_by path (Unnamed hash score) = []
notes_by path (Low hash score name) = renamed_note path name.renamed
notes_by path (Unknown hash score name) = renamed_note path name.renamed
notes_by path (Joined hash name deprecated) =
    renamed_note path name.renamed ++ deprecated_note path name.name deprecated

abbrev pub file_notes : ScannedFile → List (List ℕ)
file_notes file = notes_by file.path file.scanned
