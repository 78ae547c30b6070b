-- A package spec with what the other keys of its table stand for.
use Rattle.std.specs.Prelude.{◌≡◌, if◌then◌else◌, Option, Some, None, Result, Ok, Err, ⊤}
use Rattle.toml_subset.specs.Data.{Toml}
use Rattle.toml_value.specs.Lookup.{has_entries}
use Rattle.toml_subset.specs.shapes.Shaped.{ShapeReading, shaped_map, shaped_then}
use Rattle.policy_parts.specs.spec.Reading.{spec_of, rest_of_spec}
use Rattle.policy_parts.specs.spec.Spec.{Spec}
use Rattle.policy_parts.specs.declared.spec.extended.PackageSpecOrExtended.{PackageSpecOrExtended}

-- What a type makes of the rest of a value, where that is a table with a key; else there is nothing to read.
abbrev pub with_rest : {T : Type 0} → (Toml → ShapeReading T) → Toml → Spec → ShapeReading (PackageSpecOrExtended T)
with_rest reads rest spec =
    if has_entries rest.content then shaped_map (λ inner. record { spec = spec; inner = Some inner }) (reads rest)
    else Ok (record { spec = spec; inner = None })

abbrev pub extended_of : {T : Type 0} → (Toml → ShapeReading T) → Toml → ShapeReading (PackageSpecOrExtended T)
extended_of reads value = shaped_then (with_rest reads (rest_of_spec value)) (spec_of value)

-- what is left of the rest
abbrev pub rest_left : (Toml → Toml) → Toml → Toml
rest_left leaves rest = if has_entries rest.content then leaves rest else rest

abbrev pub rest_left_after : ShapeReading Spec → (Toml → Toml) → Toml → Toml
rest_left_after (Ok spec) leaves rest = rest_left leaves rest
rest_left_after (Err faults) leaves rest = rest

abbrev pub left_of_extended : (Toml → Toml) → Toml → Toml
left_of_extended leaves value = rest_left_after (spec_of value) leaves (rest_of_spec value)

-- ---- conversions keep the spec

-- one is there exactly where the other is, and then they are related
abbrev pub BothOrNeither : {T V : Type 0} → (T → V → Type 0) → Option T → Option V → Type 0
BothOrNeither Related None None = ⊤
BothOrNeither Related None (Some y) = ⊥
BothOrNeither Related (Some x) None = ⊥
BothOrNeither Related (Some x) (Some y) = Related x y

-- there is something to convert, and it is refused with that error
abbrev pub IsRefusedBy : {T V E : Type 0} → (T → Result V E → Type 0) → Option T → E → Type 0
IsRefusedBy gives None error = ⊥
IsRefusedBy gives (Some x) error = gives x (Err error)

abbrev pub Converts : {T V E : Type 0} → (T → Result V E → Type 0) → PackageSpecOrExtended T
    → Result (PackageSpecOrExtended V) E → Type 0
Converts gives old (Ok new) = (new.spec ≡ old.spec) × BothOrNeither (λ x y. gives x (Ok y)) old.inner new.inner
Converts gives old (Err error) = IsRefusedBy gives old.inner error

-- ---- comparisons look at the spec alone

abbrev pub spec_in : {T : Type 0} → PackageSpecOrExtended T → Spec
spec_in extended = extended.spec
