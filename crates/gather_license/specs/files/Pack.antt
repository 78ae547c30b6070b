-- The files that are read for a crate.
use Rattle.std.specs.Prelude.{ℕ, nat_eq, Bool, not, ◌||◌, ◌&&◌, List, [], ◌∷◌, ◌++◌, map, filter, codes, Option, Some}
use Rattle.std.specs.Prelude.{None, if◌then◌else◌}
use Rattle.std.specs.List.{flat_map, fold, list_any, starts_with, ends_with}
use Rattle.std.specs.Ordering.{is_lt}
use Rattle.std.specs.Str.{bytes_eq}
use Rattle.deny_text.specs.Path.{components_of, path_order}
use Rattle.tree_core.specs.Content.{ListedEntry}
use Rattle.tree_core.specs.file_reads.Heard.{ReadResult, failed, absent, wrong_kind, not_utf8, text, entries}
use Rattle.tree_core.specs.file_reads.Heard.{same_parts}
use Rattle.gather_license.specs.files.KnownReads.{FolderReads, looked_of, tried_of}
use Rattle.gather_license.specs.files.NamedFile.{NamedFileView}

-- ---- what is found

-- a name that begins `LICENSE` or `COPYING`
abbrev pub is_license_name : List ℕ → Bool
is_license_name name = starts_with nat_eq name (codes "LICENSE") || starts_with nat_eq name (codes "COPYING")

-- a file of such a name
abbrev pub is_license_file : ListedEntry → Bool
is_license_file entry = entry.1 && is_license_name entry.0

abbrev pub names_found : List ListedEntry → List (List ℕ)
names_found listed = map (λ entry. entry.0) (filter is_license_file listed)

-- whether the parts of the first path end with those of the second
abbrev pub ends_with_parts : List ℕ → List ℕ → Bool
ends_with_parts path end = ends_with bytes_eq (components_of path) (components_of end)

-- the names, and behind them the crate's `license_file`, where none of them ends with it
abbrev pub with_license_file : Option (List ℕ) → List (List ℕ) → List (List ℕ)
with_license_file None names = names
with_license_file (Some file) names =
    if list_any (λ name. ends_with_parts name file) names then names else names ++ file ∷ []

-- Of a listing that is read as entries: the file names that begin `LICENSE` or `COPYING`, and the crate's
-- `license_file`. Of any other listing nothing is found.
abbrev pub license_files_in : ReadResult → Option (List ℕ) → List (List ℕ)
license_files_in (failed before after) license_file = []
license_files_in absent license_file = []
license_files_in wrong_kind license_file = []
license_files_in not_utf8 license_file = []
license_files_in (text bytes) license_file = []
license_files_in (entries listed) license_file = with_license_file license_file (names_found listed)

-- ---- what is read

-- what is found, and what is looked up of the clarifications, in order
abbrev pub wanted_of : FolderReads → Option (List ℕ) → List (List NamedFileView) → List (List ℕ)
wanted_of known_reads license_file clarifications =
    license_files_in known_reads.listing license_file
    ++ flat_map (looked_of known_reads) (tried_of known_reads clarifications)

-- whether two paths have the same parts
abbrev pub same_path : List ℕ → List ℕ → Bool
same_path x y = same_parts (components_of x) (components_of y)

-- the paths without those of the same parts as one
abbrev pub without_path : List ℕ → List (List ℕ) → List (List ℕ)
without_path path paths = filter (λ other. not (same_path path other)) paths

-- the first spelling of each path, in order
abbrev pub first_spellings : List (List ℕ) → List (List ℕ)
first_spellings [] = []
first_spellings (path ∷ paths) = path ∷ without_path path (first_spellings paths)

-- the files that are read for a crate, in the order of the reads
abbrev pub reads_of : FolderReads → Option (List ℕ) → List (List NamedFileView) → List (List ℕ)
reads_of known_reads license_file clarifications = first_spellings (wanted_of known_reads license_file clarifications)

-- ---- in path order

-- the path among paths in order
abbrev pub paths_with : List ℕ → List (List ℕ) → List (List ℕ)
paths_with path [] = path ∷ []
paths_with path (next ∷ paths) =
    if is_lt (path_order path next) then path ∷ next ∷ paths else next ∷ paths_with path paths

-- each path placed among those before it
abbrev pub in_path_order : List (List ℕ) → List (List ℕ)
in_path_order paths = fold (λ sorted path. paths_with path sorted) [] paths

-- the same files, sorted by the parts of their paths
abbrev pub pack_paths : FolderReads → Option (List ℕ) → List (List NamedFileView) → List (List ℕ)
pack_paths known_reads license_file clarifications = in_path_order (reads_of known_reads license_file clarifications)
