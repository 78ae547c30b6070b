-- The rows of packages.
use Rattle.std.specs.Prelude.{ℕ, List, codes, Option, Some, None, Result, Ok, Err}
use Rattle.std.specs.FinMap as finmap
use Rattle.semver.specs.declared.error.Error.{Error}
use Rattle.semver.specs.Parse.{version_parts}
use Rattle.serde_json.specs.Data.{Data, array, object, Items, Members, no_members, member}
use Rattle.serde_json.specs.Find.{get}
use Rattle.deny_text.specs.Path.{parent_of}
use Rattle.deny_text.specs.TextMap.{TextMapTo}
use Rattle.graph_core.specs.declared.source.source.Source.{Source}
use Rattle.graph_core.specs.source.Reading.{SourceReading, source_of}
use Rattle.graph_metadata.specs.declared.fault.MetaReason.TheVariants.{WrongKind, BadVersion, NoFolder}
use Rattle.graph_metadata.specs.declared.fault.ObjectPlace.TheVariants.{Package, Features}
use Rattle.graph_core.specs.Krate.{CrateRecord, Version}
use Rattle.graph_metadata.specs.Shape.{object_here, text_at, optional_text_at, texts_or_empty_at, optional_texts_at}
use Rattle.graph_metadata.specs.Shape.{texts_in, IdPlaces, new_from}
use Rattle.graph_metadata.specs.Told.{MetadataReading, ◌>>=◌, each_item, meta_fault, object_place_text, key_place}

-- ---- single keys

unfoldable pub id_row : IdPlaces → ℕ → Data → MetadataReading (List ℕ)
id_row known index found = do
  id ← text_at (Package index) (codes "id") found
  new_from index (key_place (Package index) (codes "id")) id (finmap.get known id)

-- the path of the manifest, which is in a folder
abbrev pub in_folder : List ℕ → List ℕ → Option (List ℕ) → MetadataReading (List ℕ)
in_folder place path (Some folder) = Ok path
in_folder place path None = meta_fault place NoFolder

unfoldable pub manifest_row : ℕ → Data → MetadataReading (List ℕ)
manifest_row index found = do
  path ← text_at (Package index) (codes "manifest_path") found
  in_folder (key_place (Package index) (codes "manifest_path")) path (parent_of path)

abbrev pub version_from : List ℕ → Result Version Error → MetadataReading Version
version_from place (Ok version) = Ok version
version_from place (Err refused) = meta_fault place BadVersion

unfoldable pub version_row : ℕ → Data → MetadataReading Version
version_row index found = do
  text ← text_at (Package index) (codes "version") found
  version_from (key_place (Package index) (codes "version")) (version_parts text)

-- a source that is refused is none
abbrev pub source_from : SourceReading Source → Option Source
source_from (Ok source) = Some source
source_from (Err refused) = None

abbrev pub source_in : List ℕ → List ℕ → Option (List ℕ) → Option Source
source_in sparse_dir manifest None = None
source_in sparse_dir manifest (Some text) = source_from (source_of text (Some manifest) sparse_dir)

unfoldable pub source_row : List ℕ → ℕ → List ℕ → Data → MetadataReading (Option Source)
source_row sparse_dir index manifest found = do
  text ← optional_text_at (Package index) (codes "source") found
  Ok (source_in sparse_dir manifest text)

-- ---- features: from names to lists of strings, in byte order of the names

abbrev pub feature_row : ℕ → List ℕ → Data → MetadataReading (List (List ℕ))
feature_row index name (array items) = texts_in (Features index) name items
feature_row index name _ = meta_fault (key_place (Features index) name) WrongKind

unfoldable pub features_in : ℕ → TextMapTo (List (List ℕ)) → Members → MetadataReading (TextMapTo (List (List ℕ)))
features_in index found no_members = Ok found
features_in index found (member name listed rest) = do
  texts ← feature_row index name listed
  features_in index (finmap.insert found name texts) rest

abbrev pub features_from : ℕ → Option Data → MetadataReading (TextMapTo (List (List ℕ)))
features_from index None = Ok finmap.empty
features_from index (Some (object members)) = features_in index finmap.empty members
features_from index (Some _) = meta_fault (key_place (Package index) (codes "features")) WrongKind

abbrev pub features_row : ℕ → Data → MetadataReading (TextMapTo (List (List ℕ)))
features_row index found = features_from index (get (codes "features") found)

-- ---- a package, in the order of the keys in the table

-- the keys that have to be there
pub record PackageKeys : Type 0 where
  pub name : List ℕ
  pub id : List ℕ
  pub manifest_path : List ℕ
  pub version : Version

unfoldable pub named_row : IdPlaces → ℕ → Data → MetadataReading PackageKeys
named_row known index found = do
  name ← text_at (Package index) (codes "name") found
  id ← id_row known index found
  manifest_path ← manifest_row index found
  version ← version_row index found
  Ok (record { name = name; id = id; manifest_path = manifest_path; version = version })

-- the strings that may be null
pub record PackageTexts : Type 0 where
  pub license : Option (List ℕ)
  pub license_file : Option (List ℕ)
  pub source : Option Source
  pub repository : Option (List ℕ)
  pub description : Option (List ℕ)
  pub rust_version : Option (List ℕ)

unfoldable pub described_row : List ℕ → ℕ → List ℕ → Data → MetadataReading PackageTexts
described_row sparse_dir index manifest found = do
  license ← optional_text_at (Package index) (codes "license") found
  license_file ← optional_text_at (Package index) (codes "license_file") found
  source ← source_row sparse_dir index manifest found
  repository ← optional_text_at (Package index) (codes "repository") found
  description ← optional_text_at (Package index) (codes "description") found
  rust_version ← optional_text_at (Package index) (codes "rust_version") found
  Ok (record {
    license = license;
    license_file = license_file;
    source = source;
    repository = repository;
    description = description;
    rust_version = rust_version;
  })

-- the lists
pub record PackageLists : Type 0 where
  pub authors : List (List ℕ)
  pub features : TextMapTo (List (List ℕ))
  pub publish : Option (List (List ℕ))

unfoldable pub listed_row : ℕ → Data → MetadataReading PackageLists
listed_row index found = do
  authors ← texts_or_empty_at (Package index) (codes "authors") found
  features ← features_row index found
  publish ← optional_texts_at (Package index) (codes "publish") found
  Ok (record { authors = authors; features = features; publish = publish })

-- a crate of the three
abbrev pub record_with : PackageKeys → PackageTexts → PackageLists → CrateRecord
record_with named described listed = record {
  name = named.name;
  id = named.id;
  version = named.version;
  source = described.source;
  authors = listed.authors;
  repository = described.repository;
  description = described.description;
  manifest_path = named.manifest_path;
  license = described.license;
  license_file = described.license_file;
  features = finmap.entries listed.features;
  publish = listed.publish;
  rust_version = described.rust_version;
}

unfoldable pub package_row : List ℕ → IdPlaces → ℕ → Data → MetadataReading CrateRecord
package_row sparse_dir known index found = do
  value ← object_here (object_place_text (Package index)) found
  named ← named_row known index value
  described ← described_row sparse_dir index named.manifest_path value
  listed ← listed_row index value
  Ok (record_with named described listed)

-- the packages in list order
abbrev pub packages_in : List ℕ → IdPlaces → Items → MetadataReading (List CrateRecord)
packages_in sparse_dir known packages = each_item (package_row sparse_dir known) packages
