-- A package spec as contracts see it: a name with its place, and a requirement where there is one.
use Rattle.std.specs.Prelude.{ℕ, List, map, Option, Some, None}
use Rattle.deny_text.specs.declared.span.Span.{Span}
use Rattle.semver.specs.Identifiers.{comparator_view}
use Rattle.semver.specs.Parse.{Held}
use Rattle.semver.specs.declared.VersionReq.{VersionReq}

pub record Spec : Type 0 where
  pub name : List ℕ
  pub span : Span
  -- its comparators: the operator, the major, minor and patch number, and the pre-release of each
  pub requirement : Option (List Held)

abbrev pub comparators_of : VersionReq → List Held
comparators_of requirement = map comparator_view requirement.comparators.items

-- a spec without a requirement prints as its name; how one with a requirement prints is left open
abbrev pub printed_by : List ℕ → Option (List Held) → Option (List ℕ)
printed_by name None = Some name
printed_by name (Some comparators) = None

abbrev pub printed_spec : Spec → Option (List ℕ)
printed_spec spec = printed_by spec.name spec.requirement
