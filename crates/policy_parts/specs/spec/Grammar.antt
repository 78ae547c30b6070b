-- Package specs as texts: `name`, `name@requirement` and `name:requirement`.
use Rattle.std.specs.Prelude.{ℕ, ◌-◌, Bool, true, false, if◌then◌else◌, List, [], ◌∷◌, length, codes, Option, Some}
use Rattle.std.specs.Prelude.{None, option_map, Result, Ok, Err}
use Rattle.deny_text.specs.Cut.{cut_at, is_at_sign, is_colon}
use Rattle.deny_text.specs.declared.span.Span.{Span}
use Rattle.semver.specs.Parse.{Held, req_of}
use Rattle.semver.specs.declared.Op.TheVariants.{Exact}
use Rattle.semver.specs.declared.error.Error.{Error}
use Rattle.toml_subset.specs.Written.{WrittenString}
use Rattle.toml_subset.specs.shapes.Shaped.{ShapeReading, shaped_map}
use Rattle.toml_subset.specs.shapes.Shapes.{ShapeFault, fault_alone, custom}
use Rattle.policy_parts.specs.spec.Spec.{Spec}

-- ---- the split

-- a name, the text of its requirement, and whether that is to have an exact first comparator
pub record Split : Type 0 where
  pub name : List ℕ
  pub rest : List ℕ
  pub exact : Bool

abbrev pub split_by : Bool → List ℕ × List ℕ → Split
split_by exact cut = record { name = cut.0; rest = cut.1; exact = exact }

abbrev pub or_at_colon : List ℕ → Option (List ℕ × List ℕ) → Option Split
or_at_colon text (Some cut) = Some (split_by true cut)
or_at_colon text None = option_map (split_by false) (cut_at is_colon text)

-- at the first `@`, or where there is none at the first `:`; none without either
abbrev pub split_of : List ℕ → Option Split
split_of text = or_at_colon text (cut_at is_at_sign text)

-- ---- the requirement

-- the first comparator becomes exact and keeps its numbers; the others stay
abbrev pub exact_first : List Held → List Held
exact_first [] = []
exact_first (comparator ∷ more) = (Exact, comparator.1, comparator.2, comparator.3, comparator.4) ∷ more

abbrev pub exact_first_where : Bool → List Held → List Held
exact_first_where exact comparators = if exact then exact_first comparators else comparators

abbrev pub bad_requirement : Span → List ShapeFault
bad_requirement span = fault_alone (custom (codes "invalid version requirement")) span

-- the comparators that a reading gives, or the fault at a place
abbrev pub requirement_at : Span → Result (List Held) Error → ShapeReading (List Held)
requirement_at span (Ok comparators) = Ok comparators
requirement_at span (Err error) = Err (bad_requirement span)

-- ---- places

-- as many bytes at the end of a place as a text has
abbrev pub end_of : Span → List ℕ → Span
end_of span rest = record { start = span.end - length rest; end = span.end }

-- The part behind the split; the whole string where it was written with escapes, since these hide where the part
-- begins.
abbrev pub rest_span : WrittenString → Span → List ℕ → Span
rest_span string span rest = if string.escaped then span else end_of span rest

-- ---- the whole

abbrev pub spec_of_split : WrittenString → Span → Option Split → ShapeReading Spec
spec_of_split string span None = Ok (record { name = string.text; span = span; requirement = None })
spec_of_split string span (Some split) =
    shaped_map (λ comparators.
    record { name = split.name; span = span; requirement = Some (exact_first_where split.exact comparators) })
    (requirement_at (rest_span string span split.rest) (req_of split.rest))

-- The spec that a string at a place stands for. The place of its name is that of the whole string.
abbrev pub spec_of_string : WrittenString → Span → ShapeReading Spec
spec_of_string string span = spec_of_split string span (split_of string.text)
