-- Clarifications: the keys of a spec, an expression, and the files that it stands for.
use Rattle.std.specs.Prelude.{[], ◌∷◌, codes}
use Rattle.deny_text.specs.declared.span.Span.{Span}
use Rattle.toml_subset.specs.Data.{Entries, Toml}
use Rattle.toml_subset.specs.shapes.Shaped.{ShapeReading, shaped_map, shaped_then}
use Rattle.toml_value.specs.Taken.{string_of}
use Rattle.policy_toml.specs.Readings.{list_of}
use Rattle.policy_toml.specs.rows.Rows.{required_value, shaped_by}
use Rattle.policy_parts.specs.Values.{file_source_of}
use Rattle.policy_parts.specs.entries.WithSpec.{with_spec}
use Rattle.policy_parts.specs.declared.entries.clarification.Clarification.{Clarification}
use Rattle.policy_parts.specs.declared.entries.clarification.ClarificationKeys.{ClarificationKeys}
use Rattle.policy_parts.specs.declared.entries.clarification.WrittenText.{WrittenText}

-- a string with its place, and whether it has escapes
abbrev pub written_of : Toml → ShapeReading WrittenText
written_of value =
    shaped_map (λ string. record { text = record { value = string.text; span = value.span }; escapes = string.escaped })
    (string_of (codes "a string") value)

abbrev pub clarified_at : Entries → Span → ShapeReading ClarificationKeys
clarified_at entries span =
    shaped_then (λ expression. shaped_then (λ files.
    shaped_by (codes "expression" ∷ codes "license-files" ∷ []) []
    (λ _. record { expression = expression; license_files = files }) entries span)
    (required_value (codes "license-files") (list_of file_source_of) entries span))
    (required_value (codes "expression") written_of entries span)

abbrev pub clarification_of : Toml → ShapeReading Clarification
clarification_of value =
    shaped_map (λ read. record {
      spec = read.0;
      expression = read.1.expression.text;
      escapes = read.1.expression.escapes;
      license_files = read.1.license_files;
    })
    (with_spec clarified_at value)
