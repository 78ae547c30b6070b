-- Licensees that a policy names: strings that are one licence or reference, perhaps with an exception.
use Rattle.std.specs.Prelude.{ℕ, ◌^◌, ◌+◌, ◌-◌, min, if◌then◌else◌, List, [], codes, Option, Some, None, Ok, Err}
use Rattle.spdx_terms.specs.catalog.Catalog.{CatalogLists}
use Rattle.deny_text.specs.declared.span.Span.{Span}
use Rattle.spdx_terms.specs.Faults.{licensee_fault, licensee_mode}
use Rattle.spdx_terms.specs.Items.{items_of}
use Rattle.spdx_terms.specs.Licensee.{part_of}
use Rattle.spdx_terms.specs.Reasons.{reason_text}
use Rattle.spdx_terms.specs.declared.error.ParseError.{ParseError}
use Rattle.spdx_terms.specs.declared.term.LicenseReq.{LicenseReq}
pub use Rattle.spdx_core.specs.Printing.{named_mode}
use Rattle.toml_subset.specs.Data.{Toml}
use Rattle.toml_subset.specs.Written.{WrittenString}
use Rattle.toml_subset.specs.shapes.Shaped.{ShapeReading, shaped_then}
use Rattle.toml_subset.specs.shapes.Shapes.{fault_alone, custom}
use Rattle.toml_value.specs.Taken.{string_of}
use Rattle.policy_toml.specs.Readings.{list_of}
use Rattle.policy_parts.specs.declared.entries.licensee.Licensee.{Licensee}

-- a place that counts from another, cut to 64 bits: no place of a text lies there
abbrev pub place_from : ℕ → ℕ → ℕ
place_from start place = min (start + place) (2 ^ 64 - 1)

abbrev pub span_from : ℕ → Span → Span
span_from start span = record { start = place_from start span.start; end = place_from start span.end }

-- A place in a string's text, in the text where the string is. With escapes it is the whole string.
abbrev pub place_in : WrittenString → Span → Span → Span
place_in string whole span = if string.escaped then whole else span_from whole.start span

-- The first fault, or else the one part that there is. A text has one of the two, so the last case never comes.
abbrev pub licensee_by : WrittenString → Span → Option ParseError → Option LicenseReq → ShapeReading Licensee
licensee_by string whole (Some fault) part =
    Err (fault_alone (custom (reason_text fault.reason)) (place_in string whole fault.span))
licensee_by string whole None (Some req) = Ok (record { 0 = record { value = req; span = whole } })
licensee_by string whole None None = Err []

-- the term that a text names
abbrev pub part_in : CatalogLists → List ℕ → Option LicenseReq
part_in lists text = part_of (items_of (licensee_mode named_mode) lists text)

-- a string at a place
abbrev pub licensee_in : CatalogLists → WrittenString → Span → ShapeReading Licensee
licensee_in lists string whole =
    licensee_by string whole (licensee_fault named_mode lists string.text) (part_in lists string.text)

abbrev pub licensee_of : CatalogLists → Toml → ShapeReading Licensee
licensee_of lists value =
    shaped_then (λ string. licensee_in lists string value.span) (string_of (codes "an SPDX licensee string") value)

abbrev pub licensees_of : CatalogLists → Toml → ShapeReading (List Licensee)
licensees_of lists = list_of (licensee_of lists)
