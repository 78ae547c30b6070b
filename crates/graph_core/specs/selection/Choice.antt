-- What crates are selected by, and which crates a spec leaves out.
use Rattle.std.specs.Prelude.{◌≡◌, ℕ, ◌==◌, ◌&&◌, ◌||◌, Bool, true, List, ◌++◌, map, bytes_eq, Option, Some, None}
use Rattle.std.specs.Prelude.{option_map, Result, Ok, Err, if◌then◌else◌}
use Rattle.std.specs.Option.{option_or, option_to_list}
use Rattle.std.specs.List.{list_any}
use Rattle.deny_text.specs.Cut.{cut_at, is_at_sign, is_colon}
use Rattle.semver.specs.Identifiers.{parts_of}
use Rattle.semver.specs.Parse.{version_parts}
use Rattle.semver.specs.declared.error.Error.{Error}
use Rattle.graph_core.specs.Krate.{CrateRecord, Version}
use Rattle.graph_core.specs.declared.selection.exclude.ExcludeSpec.{ExcludeSpec}
use Rattle.graph_core.specs.declared.selection.selection.Selection.{Selection}

-- crates that are left out: each of the name, or those of them that have the version
pub record ExcludeSpecView : Type 0 where
  pub name : List ℕ
  pub version : Option Version

-- `workspace`: all members are roots, also where there is a root crate. `exclude_dev`: dev dependencies don't count.
-- `exclude_unpublished`: members that are published nowhere are no roots.
pub record Choice : Type 0 where
  pub workspace : Bool
  pub exclude : List ExcludeSpecView
  pub exclude_dev : Bool
  pub exclude_unpublished : Bool

-- ---- without where they lie in memory

abbrev pub exclude_spec_of : ExcludeSpec → ExcludeSpecView
exclude_spec_of spec = record { name = spec.name; version = option_map parts_of spec.version }

abbrev pub choice_of : Selection → Choice
choice_of selection = record {
  workspace = selection.workspace;
  exclude = map exclude_spec_of selection.exclude;
  exclude_dev = selection.exclude_dev;
  exclude_unpublished = selection.exclude_unpublished;
}

-- ---- which crates are left out

-- versions are equal with their pre-releases and their build parts
abbrev pub same_version : Version → Version → Bool
same_version a b = (a.0 == b.0) && ((a.1 == b.1) && ((a.2 == b.2) && (bytes_eq a.3 b.3 && bytes_eq a.4 b.4)))

-- a spec without a version leaves out each version
abbrev pub fits : Option Version → Version → Bool
fits None version = true
fits (Some wanted) version = same_version wanted version

abbrev pub excludes : ExcludeSpecView → CrateRecord → Bool
excludes spec krate = bytes_eq spec.name krate.name && fits spec.version krate.version

abbrev pub is_excluded : List ExcludeSpecView → CrateRecord → Bool
is_excluded specs krate = list_any (λ spec. excludes spec krate) specs

-- ---- a readable spec: `name@version`, `name:version` or `name`

-- at the first `@`, else at the first `:`
abbrev pub first_cut : List ℕ → Option (List ℕ × List ℕ)
first_cut text = option_or (cut_at is_at_sign text) (cut_at is_colon text)

-- a version has to be full
abbrev pub spec_with : List ℕ → Result Version Error → Option ExcludeSpecView
spec_with name (Ok version) = Some (record { name = name; version = Some version })
spec_with name (Err refused) = None

abbrev pub spec_of_cut : List ℕ → Option (List ℕ × List ℕ) → Option ExcludeSpecView
spec_of_cut text None = Some (record { name = text; version = None })
spec_of_cut text (Some (name, rest)) = spec_with name (version_parts rest)

-- the spec that a text is read as; none where it is unreadable
abbrev pub spec_read : List ℕ → Option ExcludeSpecView
spec_read text = spec_of_cut text (first_cut text)

-- the specs of a text: one, or none
abbrev pub read_one : List ℕ → List ExcludeSpecView
read_one text = option_to_list (spec_read text)

-- ---- a spec that is not carried: it holds a `/` or a `#`

abbrev pub is_unsupported_sign : ℕ → Bool
is_unsupported_sign byte = (byte == 47) || (byte == 35)

abbrev pub is_unsupported : List ℕ → Bool
is_unsupported text = list_any is_unsupported_sign text
