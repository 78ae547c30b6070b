-- The files of the sample.
use Rattle.std.specs.Prelude.{ℕ, zero, suc, List, [], ◌++◌, length, take, codes, decimal}
use Rattle.std.specs.List.{fold}
use Rattle.std.specs.FinMap as finmap
use Rattle.tree_core.specs.Content.{Content, Place, file, folder, resolve}
use Rattle.tree_core.specs.TreeState.{root_alone}
use Rattle.run_sample.specs.Metadata.{numbers, sample_metadata}

-- the folders at the first names of a place, of which there are so many
abbrev pub with_folders : Content → Place → ℕ → Content
with_folders content place zero = content
with_folders content place (suc count) = finmap.insert (with_folders content place count) (take count place) folder

-- a file at a place, and the folders that it is in
abbrev pub with_file : Content → Place → List ℕ → Content
with_file content place bytes = finmap.insert (with_folders content place (length place)) place (file bytes)

-- the policy
abbrev pub sample_policy : List ℕ
sample_policy = codes "[licenses]\nallow = [\"MIT\"]\n"

-- the metadata and the policy
abbrev pub with_texts : ℕ → Content
with_texts n =
    with_file (with_file root_alone (resolve (codes "/s/m.json")) (sample_metadata n)) (resolve (codes "/s/p.toml"))
    sample_policy

-- the manifest of a crate
abbrev pub manifest_path : ℕ → List ℕ
manifest_path i = codes "/s/c" ++ (decimal i ++ codes "/Cargo.toml")

-- with the manifest of a crate, which is an empty file
abbrev pub with_manifest : Content → ℕ → Content
with_manifest content i = with_file content (resolve (manifest_path i)) []

-- the metadata, the policy, and the manifests of n crates, and nothing else
abbrev pub sample_content : ℕ → Content
sample_content n = fold with_manifest (with_texts n) (numbers n)
