-- The tables of a policy that know no licence: the rows of their keys, and what these stand for.
use Rattle.std.specs.Prelude.{ℕ, Bool, false, List, [], ◌∷◌, codes, unwrap_or}
use Rattle.deny_text.specs.declared.span.Spanned.{Spanned}
use Rattle.toml_subset.specs.Data.{Entries, Toml}
use Rattle.toml_subset.specs.shapes.Shaped.{ShapeReading}
use Rattle.policy_toml.specs.Readings.{boolean_of, text_of, u32_of, list_of, spanned_of}
use Rattle.policy_toml.specs.rows.Rows.{KeyRow, key, optional_value, shaped_by, in_table}
use Rattle.policy_parts.specs.Values.{target_of}
use Rattle.policy_parts.specs.declared.graph.GraphConfig.{GraphConfig}
use Rattle.policy_parts.specs.declared.output.OutputConfig.{OutputConfig}
use Rattle.policy_parts.specs.declared.private.Private.{Private}

-- a flag that is false where it is left out
abbrev pub flag : List ℕ → Entries → Bool
flag name entries = unwrap_or (optional_value name boolean_of entries) false

-- texts, and texts with their places, of which there are none where the key is left out
abbrev pub texts : List ℕ → Entries → List (List ℕ)
texts name entries = unwrap_or (optional_value name (list_of text_of) entries) []

abbrev pub spanned_texts : List ℕ → Entries → List (Spanned (List ℕ))
spanned_texts name entries = unwrap_or (optional_value name (list_of (spanned_of text_of)) entries) []

-- ---- private crates

abbrev pub private_rows : List KeyRow
private_rows =
    key (codes "ignore") boolean_of
    ∷ key (codes "ignore-sources") (list_of (spanned_of text_of))
    ∷ key (codes "registries") (list_of text_of)
    ∷ []

abbrev pub private_in : Entries → Private
private_in entries = record {
  ignore = flag (codes "ignore") entries;
  ignore_sources = spanned_texts (codes "ignore-sources") entries;
  registries = texts (codes "registries") entries;
}

abbrev pub private_of : Toml → ShapeReading Private
private_of = in_table (shaped_by [] private_rows private_in)

-- ---- what is printed

abbrev pub output_rows : List KeyRow
output_rows = key (codes "feature-depth") u32_of ∷ []

abbrev pub output_in : Entries → OutputConfig
output_in entries = record { feature_depth = optional_value (codes "feature-depth") u32_of entries }

abbrev pub output_of : Toml → ShapeReading OutputConfig
output_of = in_table (shaped_by [] output_rows output_in)

-- ---- which crates are looked at

abbrev pub graph_rows : List KeyRow
graph_rows =
    key (codes "targets") (list_of target_of)
    ∷ key (codes "exclude") (list_of text_of)
    ∷ key (codes "features") (list_of text_of)
    ∷ key (codes "all-features") boolean_of
    ∷ key (codes "no-default-features") boolean_of
    ∷ key (codes "exclude-dev") boolean_of
    ∷ key (codes "exclude-unpublished") boolean_of
    ∷ []

abbrev pub graph_config_in : Entries → GraphConfig
graph_config_in entries = record {
  targets = unwrap_or (optional_value (codes "targets") (list_of target_of) entries) [];
  exclude = texts (codes "exclude") entries;
  features = texts (codes "features") entries;
  all_features = flag (codes "all-features") entries;
  no_default_features = flag (codes "no-default-features") entries;
  exclude_dev = flag (codes "exclude-dev") entries;
  exclude_unpublished = flag (codes "exclude-unpublished") entries;
}

abbrev pub graph_config_of : Toml → ShapeReading GraphConfig
graph_config_of = in_table (shaped_by [] graph_rows graph_config_in)
