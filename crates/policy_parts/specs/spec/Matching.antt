-- Which crates a package spec matches.
use Rattle.std.specs.Prelude.{Bool, true, ◌&&◌, List, Option, Some, None}
use Rattle.std.specs.Str.{bytes_eq}
use Rattle.semver.specs.EvalViews.{matches_views}
use Rattle.semver.specs.Parse.{Held, Parts}
use Rattle.graph_core.specs.Krate.{CrateRecord}
use Rattle.policy_parts.specs.spec.Spec.{Spec}

-- without a requirement each version, also a pre-release
abbrev pub version_matches : Option (List Held) → Parts → Bool
version_matches None version = true
version_matches (Some comparators) version = matches_views comparators version

-- the names are equal, and the version meets the requirement
abbrev pub spec_matches : Spec → CrateRecord → Bool
spec_matches spec krate = bytes_eq krate.name spec.name && version_matches spec.requirement krate.version
