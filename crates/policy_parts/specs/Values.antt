-- The parts of a policy with a key that has to be there.
use Rattle.std.specs.Prelude.{[], ◌∷◌, codes, Option, Some, None, unwrap_or, option_map}
use Rattle.deny_text.specs.declared.span.Span.{Span}
use Rattle.toml_subset.specs.Data.{Entries, Toml}
use Rattle.toml_subset.specs.shapes.Shaped.{ShapeReading, shaped_map, shaped_then}
use Rattle.toml_value.specs.Lookup.{value_at}
use Rattle.toml_value.specs.Removal.{entries_without}
use Rattle.toml_value.specs.Taken.{as_table, given_back, left_by, string_of}
use Rattle.policy_toml.specs.Readings.{text_of, u32_of, list_of, spanned_of}
use Rattle.policy_toml.specs.rows.Rows.{key, optional_value, required_value, needed_at, in_table, left_of_table}
use Rattle.policy_toml.specs.rows.Rows.{shaped_by}
use Rattle.policy_parts.specs.declared.file_source.FileSource.{FileSource}
use Rattle.policy_parts.specs.declared.reason.Reason.{Reason}
use Rattle.policy_parts.specs.declared.target.Target.{Target}

-- ---- a file, and the hash of its normal form

abbrev pub file_source_at : Entries → Span → ShapeReading FileSource
file_source_at entries span =
    shaped_then (λ path. shaped_then (λ hash.
    shaped_by (codes "path" ∷ codes "hash" ∷ []) [] (λ _. record { path = path; hash = hash }) entries span)
    (required_value (codes "hash") u32_of entries span))
    (required_value (codes "path") (spanned_of text_of) entries span)

abbrev pub file_source_of : Toml → ShapeReading FileSource
file_source_of = in_table file_source_at

-- ---- a target: a string, or a table with `triple`

abbrev pub target_at : Entries → Span → ShapeReading Target
target_at entries span =
    shaped_then (λ filter. shaped_by (codes "triple" ∷ []) (key (codes "features") (list_of text_of) ∷ [])
    (λ entries.
    record { filter = filter; features = unwrap_or (optional_value (codes "features") (list_of text_of) entries) [] })
    entries span)
    (required_value (codes "triple") (spanned_of text_of) entries span)

abbrev pub target_by : Toml → Option Entries → ShapeReading Target
target_by value (Some entries) = target_at entries value.span
target_by value None =
    shaped_map (λ string. record { filter = record { value = string.text; span = value.span }; features = [] })
    (string_of (codes "a string or table") value)

abbrev pub target_of : Toml → ShapeReading Target
target_of value = target_by value (as_table value.content)

-- a target takes its string or table out
abbrev pub left_of_target_by : Toml → Option Entries → Toml
left_of_target_by value (Some entries) = left_of_table value
left_of_target_by value None = left_by (string_of (codes "a string or table") value) value

abbrev pub left_of_target : Toml → Toml
left_of_target value = left_of_target_by value (as_table value.content)

-- ---- a reason

abbrev pub reason_by : Span → Option Toml → ShapeReading Reason
reason_by span value =
    shaped_map (λ text. record { 0 = text }) (needed_at (codes "reason") span (option_map (spanned_of text_of) value))

abbrev pub reason_of : Toml → ShapeReading Reason
reason_of = in_table (λ entries span. reason_by span (value_at (codes "reason") entries))

-- the other keys go back
abbrev pub left_of_reason_by : Toml → Option Entries → Toml
left_of_reason_by value (Some entries) = given_back (entries_without (codes "reason") entries) value
left_of_reason_by value None = value

abbrev pub left_of_reason : Toml → Toml
left_of_reason value = left_of_reason_by value (as_table value.content)
