-- Crates as metadata tells of them, and what is said of one.
use Rattle.std.specs.Prelude.{ℕ, Bool, false, List, ◌++◌, map, codes, Option, Some, None, bytes_eq}
use Rattle.std.specs.FinMap as finmap
use Rattle.std.specs.Option.{option_map_or}
use Rattle.std.specs.List.{list_any, list_all}
use Rattle.std.specs.Ordering.{on, nat_cmp}
use Rattle.std.specs.declared.cmp.Ordering.{Ordering}
use Rattle.std.specs.Cmp.{IsTotalOrder, on_total}
use Rattle.std.specs.Cmp.Lexicographic.{slice_cmp, nat_list_cmp_total}
use Rattle.semver.specs.Identifiers.{parts_of, parts_text}
use Rattle.url.specs.Parts.{Parts}
use Rattle.graph_core.specs.declared.source.source.Source.{Source}
use Rattle.graph_core.specs.source.Source as sources
use Rattle.graph_core.specs.source.Matching.{Matches}
use Rattle.graph_core.specs.declared.krate.Krate.{Krate}

-- major, minor and patch, the pre-release and the build part
abbrev pub Version : Type 0
Version = ℕ × ℕ × ℕ × List ℕ × List ℕ

-- A crate without where it lies in memory. The features are in the byte order of their names, each with what it turns
-- on.
pub record CrateRecord : Type 0 where
  pub name : List ℕ
  pub id : List ℕ
  pub version : Version
  pub source : Option Source
  pub authors : List (List ℕ)
  pub repository : Option (List ℕ)
  pub description : Option (List ℕ)
  pub manifest_path : List ℕ
  pub license : Option (List ℕ)
  pub license_file : Option (List ℕ)
  pub features : List (List ℕ × List (List ℕ))
  pub publish : Option (List (List ℕ))
  pub rust_version : Option (List ℕ)

abbrev pub record_of : Krate → CrateRecord
record_of krate = record {
  name = krate.name;
  id = krate.id;
  version = parts_of krate.version;
  source = krate.source;
  authors = krate.authors;
  repository = krate.repository;
  description = krate.description;
  manifest_path = krate.manifest_path;
  license = krate.license;
  license_file = krate.license_file;
  features = finmap.entries krate.features;
  publish = krate.publish;
  rust_version = krate.rust_version;
}

-- ---- the order: by the bytes of the ids alone

abbrev pub id_of : Krate → List ℕ
id_of krate = krate.id

abbrev pub krate_order : Krate → Krate → Ordering
krate_order = on id_of (slice_cmp nat_cmp)

pub krate_order_total : IsTotalOrder krate_order
krate_order_total = on_total id_of nat_list_cmp_total

-- the ids of crates
abbrev pub ids_in : List CrateRecord → List (List ℕ)
ids_in crates = map (λ krate. krate.id) crates

-- ---- what is said of a crate

-- whether a list holds a text
abbrev pub has_text : List (List ℕ) → List ℕ → Bool
has_text texts text = list_any (λ other. bytes_eq other text) texts

-- the publish list is there, and each of its names is in the list of registries
abbrev pub is_private : List (List ℕ) → Option (List (List ℕ)) → Bool
is_private registries None = false
is_private registries (Some names) = list_all (has_text registries) names

-- a crate without a source matches no address
abbrev pub SourceMatches : Bool → Option Source → Parts → Type 0
SourceMatches exact None address = ⊥
SourceMatches exact (Some source) address = Matches exact source address

abbrev pub is_crates_io : Option Source → Bool
is_crates_io source = option_map_or sources.is_crates_io source false

abbrev pub is_git_source : Option Source → Bool
is_git_source source = option_map_or sources.is_git source false

abbrev pub is_registry : Option Source → Bool
is_registry source = option_map_or sources.is_registry source false

-- `{name} = {version}`
abbrev pub title_of : CrateRecord → List ℕ
title_of krate = krate.name ++ codes " = " ++ parts_text krate.version
