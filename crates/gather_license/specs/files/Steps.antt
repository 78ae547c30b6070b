-- What the steps of making a pack say by whatever known reads agree with the pack that is left.
use Rattle.std.specs.Prelude.{◌≡◌, ℕ, List, [], ◌∷◌, ◌++◌, map, Option, Some, if◌then◌else◌}
use Rattle.std.specs.List.{fold, list_any}
use Rattle.std.specs.BTreeMap.{insert_entry}
use Rattle.deny_text.specs.Path.{components_of, path_order}
use Rattle.tree_core.specs.declared.reads.ReadKind.TheVariants.{Listing, LicenseFile}
use Rattle.tree_core.specs.declared.reads.ReadRecord.{ReadRecord}
use Rattle.tree_core.specs.file_reads.Heard.{ReadResult, absent, read_record_of}
use Rattle.gather_license.specs.files.KnownReads.{FolderReads}
use Rattle.gather_license.specs.files.Pack.{first_spellings, license_files_in, same_path}
use Rattle.gather_license.specs.files.View.{PackView, file_at, normal_heard, paths_read}

-- what the pack has was read by these known reads
pub record Agrees (known_reads : FolderReads) (pack : PackView) : Type 0 where
  pub listing : known_reads.listing ≡ pack.listing
  pub files : (path : List ℕ) (heard : ReadResult) → file_at pack.files path ≡ Some heard
      → normal_heard (known_reads.file (components_of path)) ≡ heard

-- the records are those of the listing and of the files in the order of their reads
abbrev pub file_record : FolderReads → List ℕ → ReadRecord
file_record known_reads path = read_record_of LicenseFile path (known_reads.file (components_of path))

abbrev pub records_by : FolderReads → List ℕ → List (List ℕ) → List ReadRecord
records_by known_reads folder paths =
    read_record_of Listing folder known_reads.listing ∷ map (file_record known_reads) paths

-- a path, where none of the same parts is there yet
abbrev pub with_path : List (List ℕ) → List ℕ → List (List ℕ)
with_path paths path = if list_any (same_path path) paths then paths else paths ++ path ∷ []

-- the pack with a further file, which was just read
abbrev pub with_file : PackView → List ℕ → ReadResult → PackView
with_file pack path heard = record {
  folder = pack.folder;
  listing = pack.listing;
  files = insert_entry path_order pack.files path (normal_heard heard);
  reads = pack.reads ++ read_record_of LicenseFile path heard ∷ [];
}

-- the pack of a folder that was not listed, and of which no file was read
abbrev pub unread_pack : List ℕ → PackView
unread_pack folder = record { folder = folder; listing = absent; files = []; reads = [] }

-- A pack was begun: the folder was listed, and what is found was read.
pub record BeginsPack (folder : List ℕ) (license_file : Option (List ℕ)) (pack : PackView) : Type 0 where
  pub folder_is : pack.folder ≡ folder
  pub records : (known_reads : FolderReads) → Agrees known_reads pack
      → pack.reads ≡ records_by known_reads pack.folder (paths_read pack.reads)
  pub paths : paths_read pack.reads ≡ fold with_path [] (license_files_in pack.listing license_file)

-- paths that are looked up one after another are read as the first spelling of each, in order
abbrev pub LookUpsKeepFirstSpellings : Type 0
LookUpsKeepFirstSpellings = (paths : List (List ℕ)) → fold with_path [] paths ≡ first_spellings paths
