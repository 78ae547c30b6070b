-- A table that holds the keys of a package spec beside its own: the spec, and then what is left of the value.
use Rattle.std.specs.Prelude.{Ok, Err}
use Rattle.deny_text.specs.declared.span.Span.{Span}
use Rattle.toml_subset.specs.Data.{Entries, Toml}
use Rattle.toml_subset.specs.shapes.Shaped.{ShapeReading, shaped_map, shaped_then}
use Rattle.policy_toml.specs.rows.Rows.{in_table, left_of_table}
use Rattle.policy_parts.specs.spec.Reading.{spec_of, rest_of_spec}
use Rattle.policy_parts.specs.spec.Spec.{Spec}

-- behind a string the boolean false is left, which is no table
abbrev pub with_spec : {A : Type 0} → (Entries → Span → ShapeReading A) → Toml → ShapeReading (Spec × A)
with_spec shape value =
    shaped_then (λ spec. shaped_map (λ keys. (spec, keys)) (in_table shape (rest_of_spec value))) (spec_of value)

-- what is left of the value in the end, by whether the spec was read
abbrev pub left_behind : ShapeReading Spec → Toml → Toml
left_behind (Ok spec) rest = left_of_table rest
left_behind (Err faults) rest = rest

abbrev pub left_of_entry : Toml → Toml
left_of_entry value = left_behind (spec_of value) (rest_of_spec value)
