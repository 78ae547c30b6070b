-- The package spec that a value stands for, and what is left of the value.
use Rattle.std.specs.Prelude.{ℕ, Bool, true, false, is_some, List, codes, Option, Some, None, Ok, Err}
use Rattle.deny_text.specs.declared.span.Span.{Span}
use Rattle.deny_text.specs.declared.span.Spanned.{Spanned}
use Rattle.semver.specs.Parse.{Held, req_of}
use Rattle.toml_subset.specs.Data.{Entries, Toml}
use Rattle.toml_value.specs.Taken.{given_back}
use Rattle.toml_value.specs.Lookup.{value_at}
use Rattle.policy_toml.specs.Readings.{text_of, spanned_of}
use Rattle.toml_value.specs.Taken.{as_table, string_of, left_by}
use Rattle.toml_value.specs.Removal.{entries_without}
use Rattle.toml_subset.specs.shapes.Shaped.{ShapeReading, shaped_map, shaped_then}
use Rattle.toml_subset.specs.shapes.Shapes.{fault_alone, missing}
use Rattle.policy_parts.specs.spec.Grammar.{requirement_at, spec_of_string}
use Rattle.policy_parts.specs.spec.Spec.{Spec}

-- ---- a string

-- a string that is split, where a thing of that name is wanted
abbrev pub string_spec : List ℕ → Toml → ShapeReading Spec
string_spec wanted value = shaped_then (λ string. spec_of_string string value.span) (string_of wanted value)

-- ---- a table with `name`, and maybe `version`

abbrev pub requirement_of : Toml → ShapeReading (List Held)
requirement_of value = shaped_then (λ text. requirement_at value.span (req_of text)) (text_of value)

abbrev pub with_version : Spanned (List ℕ) → Option Toml → ShapeReading Spec
with_version name None = Ok (record { name = name.value; span = name.span; requirement = None })
with_version name (Some version) =
    shaped_map (λ comparators. record { name = name.value; span = name.span; requirement = Some comparators })
    (requirement_of version)

-- The name is never split. A table without it misses `crate`, which is the key to write.
abbrev pub named_spec : Span → Option Toml → Option Toml → ShapeReading Spec
named_spec span None version = Err (fault_alone (missing (codes "crate")) span)
named_spec span (Some name) version = shaped_then (λ text. with_version text version) (spanned_of text_of name)

-- ---- a table

abbrev pub table_spec_by : Entries → Span → Option Toml → ShapeReading Spec
table_spec_by entries span (Some string) = string_spec (codes "a crate spec") string
table_spec_by entries span None = named_spec span (value_at (codes "name") entries) (value_at (codes "version") entries)

-- where `crate` is there it is the spec, and `name` and `version` are other keys
abbrev pub table_spec : Entries → Span → ShapeReading Spec
table_spec entries span = table_spec_by entries span (value_at (codes "crate") entries)

-- the entries without the keys that a spec is read from
abbrev pub entries_left_by : Bool → Entries → Entries
entries_left_by true entries = entries_without (codes "crate") entries
entries_left_by false entries = entries_without (codes "version") (entries_without (codes "name") entries)

abbrev pub entries_left : Entries → Entries
entries_left entries = entries_left_by (is_some (value_at (codes "crate") entries)) entries

-- ---- a value

abbrev pub spec_by : Toml → Option Entries → ShapeReading Spec
spec_by value (Some entries) = table_spec entries value.span
spec_by value None = string_spec (codes "a string or table") value

abbrev pub spec_of : Toml → ShapeReading Spec
spec_of value = spec_by value (as_table value.content)

abbrev pub left_of_kind : Toml → Option Entries → Toml
left_of_kind value (Some entries) = given_back (entries_left entries) value
left_of_kind value None = left_by (string_of (codes "a string or table") value) value

-- Behind a string the boolean false, behind a table its other keys in their order, each at the place of the value.
-- A value of another kind stays as it was.
abbrev pub rest_of_spec : Toml → Toml
rest_of_spec value = left_of_kind value (as_table value.content)
