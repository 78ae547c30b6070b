-- The whole policy: the rows of its keys, and what these stand for.
use Rattle.std.specs.Prelude.{ℕ, false, List, [], ◌∷◌, codes, Option, None, unwrap_or}
use Rattle.std.specs.Option.{option_or}
use Rattle.spdx_terms.specs.catalog.Catalog.{CatalogLists}
use Rattle.deny_text.specs.declared.span.Span.{Span}
use Rattle.toml_subset.specs.Data.{Entries, Toml}
use Rattle.toml_subset.specs.shapes.Shaped.{ShapeReading}
use Rattle.policy_toml.specs.Readings.{boolean_of, text_of, u32_of, list_of}
use Rattle.policy_toml.specs.rows.Rows.{KeyRow, key, passed_key, optional_value, key_span, shaped_by, in_table}
use Rattle.policy_parts.specs.Tables.{graph_config_of, output_of}
use Rattle.policy_parts.specs.Values.{target_of}
use Rattle.policy_parts.specs.declared.graph.GraphConfig.{GraphConfig}
use Rattle.policy_parts.specs.declared.output.OutputConfig.{OutputConfig}
use Rattle.policy_core.specs.config.Config.{config_of}
use Rattle.policy_core.specs.config.Places.{places_of_keys}
use Rattle.policy_core.specs.declared.config.root.MovedKeys.{MovedKeys}
use Rattle.policy_core.specs.declared.config.root.RootConfig.{RootConfig}

-- The first three are of other checks than that of licences: their values may be anything.
abbrev pub root_rows : CatalogLists → List KeyRow
root_rows lists =
    passed_key (codes "advisories")
    ∷ passed_key (codes "bans")
    ∷ passed_key (codes "sources")
    ∷ key (codes "licenses") (config_of lists)
    ∷ key (codes "graph") graph_config_of
    ∷ key (codes "targets") (list_of target_of)
    ∷ key (codes "exclude") (list_of text_of)
    ∷ key (codes "features") (list_of text_of)
    ∷ key (codes "all-features") boolean_of
    ∷ key (codes "no-default-features") boolean_of
    ∷ key (codes "exclude-dev") boolean_of
    ∷ key (codes "output") output_of
    ∷ key (codes "feature-depth") u32_of
    ∷ []

-- the keys that were moved to `graph`, whose places are kept
abbrev pub moved_keys : List (List ℕ)
moved_keys =
    codes "targets" ∷ codes "exclude" ∷ codes "features" ∷ codes "all-features" ∷ codes "no-default-features"
    ∷ codes "exclude-dev" ∷ []

abbrev pub moved_rows : List KeyRow
moved_rows =
    key (codes "targets") (list_of target_of)
    ∷ key (codes "exclude") (list_of text_of)
    ∷ key (codes "features") (list_of text_of)
    ∷ key (codes "all-features") boolean_of
    ∷ key (codes "no-default-features") boolean_of
    ∷ key (codes "exclude-dev") boolean_of
    ∷ []

abbrev pub no_graph : GraphConfig
no_graph = record {
  targets = [];
  exclude = [];
  features = [];
  all_features = false;
  no_default_features = false;
  exclude_dev = false;
  exclude_unpublished = false;
}

abbrev pub no_output : OutputConfig
no_output = record { feature_depth = None }

-- the values of moved keys
abbrev pub moved_in : Entries → MovedKeys
moved_in entries = record {
  targets = optional_value (codes "targets") (list_of target_of) entries;
  exclude = optional_value (codes "exclude") (list_of text_of) entries;
  features = optional_value (codes "features") (list_of text_of) entries;
  all_features = optional_value (codes "all-features") boolean_of entries;
  no_default_features = optional_value (codes "no-default-features") boolean_of entries;
  exclude_dev = optional_value (codes "exclude-dev") boolean_of entries;
}

-- these values in place of those of the table `graph`
abbrev pub with_moved : MovedKeys → GraphConfig → GraphConfig
with_moved moved graph = record {
  targets = unwrap_or moved.targets graph.targets;
  exclude = unwrap_or moved.exclude graph.exclude;
  features = unwrap_or moved.features graph.features;
  all_features = unwrap_or moved.all_features graph.all_features;
  no_default_features = unwrap_or moved.no_default_features graph.no_default_features;
  exclude_dev = unwrap_or moved.exclude_dev graph.exclude_dev;
  exclude_unpublished = graph.exclude_unpublished;
}

-- a depth in place of the one of the table `output`
abbrev pub with_depth : Option ℕ → OutputConfig → OutputConfig
with_depth depth output = record { feature_depth = option_or depth output.feature_depth }

abbrev pub root_in : CatalogLists → Entries → RootConfig
root_in lists entries = record {
  licenses = optional_value (codes "licenses") (config_of lists) entries;
  graph = with_moved (moved_in entries) (unwrap_or (optional_value (codes "graph") graph_config_of entries) no_graph);
  output = with_depth (optional_value (codes "feature-depth") u32_of entries)
      (unwrap_or (optional_value (codes "output") output_of entries) no_output);
  graph_deprecated = places_of_keys moved_keys entries;
  output_deprecated = key_span (codes "feature-depth") entries;
}

abbrev pub root_at : CatalogLists → Entries → Span → ShapeReading RootConfig
root_at lists = shaped_by [] (root_rows lists) (root_in lists)

abbrev pub root_of : CatalogLists → Toml → ShapeReading RootConfig
root_of lists = in_table (root_at lists)
