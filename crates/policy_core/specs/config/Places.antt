-- The places of keys.
use Rattle.std.specs.Prelude.{ℕ, List, Option}
use Rattle.std.specs.List.{filter_map}
use Rattle.deny_text.specs.declared.span.Span.{Span}
use Rattle.toml_subset.specs.Data.{Entries}
use Rattle.policy_toml.specs.rows.Rows.{key_span}

-- those that are there
abbrev pub places_there : List (Option Span) → List Span
places_there places = filter_map (λ place. place) places

-- the places of those of these keys that are there, in the order of the names
abbrev pub places_of_keys : List (List ℕ) → Entries → List Span
places_of_keys names entries = filter_map (λ name. key_span name entries) names
