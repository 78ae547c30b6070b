-- Where a policy and an exceptions file are looked for.
use Rattle.std.specs.Prelude.{ℕ, List, [], ◌∷◌, map, codes}
use Rattle.std.specs.List.{flat_map}
use Rattle.deny_text.specs.Path.{parent_of, join_of, ancestors_from}
use Rattle.tree_core.specs.texts.Cause.{Cause, no_memory, failed_read}
use Rattle.tree_core.specs.declared.texts.search.SoughtFile.{SoughtFile}
use Rattle.tree_core.specs.declared.texts.search.SoughtFile.TheVariants.{Policy, Exceptions}
use Rattle.tree_core.specs.declared.texts.search.SearchError.{SearchError}
use Rattle.tree_core.specs.declared.texts.search.SearchError.TheVariants.{Failed, Memory}

-- the names of the file that is looked for, in the order in which a folder is asked for them
abbrev pub names_sought : SoughtFile → List (List ℕ)
names_sought Policy = codes "deny.toml" ∷ codes ".deny.toml" ∷ codes ".cargo/deny.toml" ∷ []
names_sought Exceptions =
    codes "deny.exceptions.toml" ∷ codes ".deny.exceptions.toml" ∷ codes ".cargo/deny.exceptions.toml" ∷ []

-- the paths in a folder
abbrev pub paths_in_folder : List (List ℕ) → List ℕ → List (List ℕ)
paths_in_folder names folder = map (join_of folder) names

-- the manifest's folder and each folder above
abbrev pub folders_of : List ℕ → List (List ℕ)
folders_of manifest = ancestors_from (parent_of manifest)

-- the paths at which it is looked for: of each folder, from the manifest's upwards, each name
abbrev pub candidates : SoughtFile → List ℕ → List (List ℕ)
candidates sought manifest = flat_map (paths_in_folder (names_sought sought)) (folders_of manifest)

-- why a search is refused
abbrev pub search_cause : SearchError → Cause
search_cause (Failed before after) = failed_read before after
search_cause Memory = no_memory
