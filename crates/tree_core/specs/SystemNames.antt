-- The names that a system tells of a folder.
use Rattle.std.specs.Prelude.{ℕ, ◌==◌, Bool, true, false, List, map, codes, if◌then◌else◌, Option}
use Rattle.std.specs.List.{filter, slice_split}
use Rattle.std.specs.List.Sorted.{IsPermutation}
use Rattle.std.specs.Io.KnownBytes.{Consumes}
use Rattle.std.specs.Str.{bytes_eq}
use Rattle.tree_core.specs.declared.tree.Entry.{Entry}

-- not empty, nor the folder itself, nor the folder above
abbrev pub names_entry : List ℕ → Bool
names_entry name =
    if bytes_eq name (codes "") then false
    else (if bytes_eq name (codes ".") then false
    else (if bytes_eq name (codes "..") then false else true))

-- each name that is reported ends with the byte 0
abbrev pub names_in_listing : List ℕ → List (List ℕ)
names_in_listing bytes = filter names_entry (slice_split (λ byte. byte == 0) bytes)

-- these are the names, each as often, that a folder has reported from before up to after
pub record TellsNames (before after : Option (List ℕ)) (names : List (List ℕ)) : Type 0 where
  pub bytes : List ℕ
  pub told : Consumes before after bytes
  pub same : IsPermutation (names_in_listing bytes) names

abbrev pub system_names : List Entry → List (List ℕ)
system_names entries = map (λ (entry : Entry). entry.name) entries
