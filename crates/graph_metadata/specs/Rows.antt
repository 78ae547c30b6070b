-- What the rows of the code hold, without where it lies in memory.
use Rattle.std.specs.Prelude.{option_copied}
use Rattle.semver.specs.Identifiers.{parts_of}
use Rattle.graph_metadata.specs.declared.package.NamedRow.{NamedRow}
use Rattle.graph_metadata.specs.declared.package.DescribedRow.{DescribedRow}
use Rattle.graph_metadata.specs.declared.package.ListedRow.{ListedRow}
use Rattle.graph_metadata.specs.declared.package.Copies.{Copies}
use Rattle.graph_metadata.specs.Packages.{PackageKeys, PackageTexts, PackageLists}

abbrev pub named_of : NamedRow → PackageKeys
named_of row = record {
  name = row.name.now;
  id = row.id.now;
  manifest_path = row.manifest_path.now;
  version = parts_of row.version;
}

abbrev pub described_of : DescribedRow → PackageTexts
described_of row = record {
  license = option_copied row.license;
  license_file = option_copied row.license_file;
  source = row.source;
  repository = option_copied row.repository;
  description = option_copied row.description;
  rust_version = option_copied row.rust_version;
}

abbrev pub listed_of : ListedRow → PackageLists
listed_of row = record { authors = row.authors; features = row.features; publish = row.publish }

-- the texts that a crate has of its rows
abbrev pub copies_in : PackageKeys → PackageTexts → Copies
copies_in named described = record {
  name = named.name;
  id = named.id;
  manifest_path = named.manifest_path;
  license = described.license;
  license_file = described.license_file;
  repository = described.repository;
  description = described.description;
  rust_version = described.rust_version;
}
