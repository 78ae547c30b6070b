-- Whether a policy was refused for a licence that the catalogue lacks.
use Rattle.std.specs.Prelude.{ℕ, Bool, false, ◌||◌, List}
use Rattle.std.specs.List.{list_any}
use Rattle.std.specs.Str.{bytes_eq}
use Rattle.diag_core.specs.declared.diagnostic.Diagnostic.{Diagnostic}
use Rattle.diag_core.specs.declared.label.Label.{Label}
use Rattle.spdx_terms.specs.declared.error.ParseReason.TheVariants.{UnknownTerm}
use Rattle.spdx_terms.specs.Reasons.{reason_text}
use Rattle.toml_subset.specs.shapes.Shapes.{ShapeFault, ShapeReason, custom}
use Rattle.run_found.specs.declared.error.Error.{Error}
use Rattle.run_found.specs.declared.error.Error.TheVariants.{ConfigShape, ConfigInvalid}

-- the words that tell such a licence
abbrev pub is_unknown : List ℕ → Bool
is_unknown words = bytes_eq words (reason_text UnknownTerm)

-- in a value of the policy
abbrev pub is_unknown_reason : ShapeReason → Bool
is_unknown_reason (custom words) = is_unknown words
is_unknown_reason _ = false

abbrev pub is_unknown_fault : ShapeFault → Bool
is_unknown_fault fault = is_unknown_reason fault.reason

-- in a finding of its load, or at a place that the finding tells
abbrev pub is_unknown_label : Label → Bool
is_unknown_label label = is_unknown label.message

abbrev pub is_unknown_finding : Diagnostic → Bool
is_unknown_finding finding = is_unknown finding.message || list_any is_unknown_label finding.labels

abbrev pub names_unknown : Error → Bool
names_unknown (ConfigShape faults) = list_any is_unknown_fault faults
names_unknown (ConfigInvalid found) = list_any is_unknown_finding found
names_unknown _ = false
