-- The table `licenses` of a policy: the rows of its keys, and what these stand for.
use Rattle.std.specs.Prelude.{ℕ, pos, true, false, List, [], ◌∷◌, codes, unwrap_or}
use Rattle.spdx_terms.specs.catalog.Catalog.{CatalogLists}
use Rattle.deny_text.specs.declared.span.Span.{Span}
use Rattle.toml_subset.specs.Data.{Entries, Toml}
use Rattle.toml_subset.specs.shapes.Shaped.{ShapeReading}
use Rattle.policy_toml.specs.Readings.{boolean_of, hundredths_of, i32_of, list_of}
use Rattle.policy_toml.specs.declared.hundredths.Hundredths.{Hundredths}
use Rattle.policy_toml.specs.rows.Rows.{KeyRow, key, passed_key, optional_value, shaped_by, in_table}
use Rattle.policy_parts.specs.Names.{lint_of}
use Rattle.policy_parts.specs.Tables.{private_of}
use Rattle.policy_parts.specs.declared.names.LintLevel.TheVariants.{Warn}
use Rattle.policy_parts.specs.declared.private.Private.{Private}
use Rattle.policy_parts.specs.entries.Clarifications.{clarification_of}
use Rattle.policy_parts.specs.entries.Exceptions.{exceptions_of}
use Rattle.policy_parts.specs.entries.Licensees.{licensees_of}
use Rattle.policy_core.specs.config.Places.{places_of_keys}
use Rattle.policy_core.specs.declared.config.config.Config.{Config}

-- A removed key is passed over: its value may be anything.
abbrev pub config_rows : CatalogLists → List KeyRow
config_rows lists =
    key (codes "version") i32_of
    ∷ key (codes "private") private_of
    ∷ passed_key (codes "unlicensed")
    ∷ passed_key (codes "allow-osi-fsf-free")
    ∷ passed_key (codes "copyleft")
    ∷ passed_key (codes "default")
    ∷ key (codes "confidence-threshold") hundredths_of
    ∷ passed_key (codes "deny")
    ∷ key (codes "allow") (licensees_of lists)
    ∷ key (codes "unused-allowed-license") lint_of
    ∷ key (codes "clarify") (list_of clarification_of)
    ∷ key (codes "exceptions") (exceptions_of lists)
    ∷ key (codes "unused-license-exception") lint_of
    ∷ key (codes "include-dev") boolean_of
    ∷ key (codes "include-build") boolean_of
    ∷ []

-- the removed keys, whose places are kept
abbrev pub removed_keys : List (List ℕ)
removed_keys =
    codes "unlicensed" ∷ codes "allow-osi-fsf-free" ∷ codes "copyleft" ∷ codes "default" ∷ codes "deny" ∷ []

abbrev pub no_private : Private
no_private = record { ignore = false; ignore_sources = []; registries = [] }

-- four fifths
abbrev pub usual_threshold : Hundredths
usual_threshold = record { 0 = pos 80 }

-- what an empty table stands for
abbrev pub no_config : Config
no_config = record {
  version = pos 1;
  private = no_private;
  confidence_threshold = usual_threshold;
  allow = [];
  unused_allowed_license = Warn;
  clarify = [];
  exceptions = [];
  unused_license_exception = Warn;
  include_dev = false;
  include_build = true;
  deprecated_spans = [];
}

abbrev pub config_in : CatalogLists → Entries → Config
config_in lists entries = record {
  version = unwrap_or (optional_value (codes "version") i32_of entries) (pos 1);
  private = unwrap_or (optional_value (codes "private") private_of entries) no_private;
  confidence_threshold =
      unwrap_or (optional_value (codes "confidence-threshold") hundredths_of entries) usual_threshold;
  allow = unwrap_or (optional_value (codes "allow") (licensees_of lists) entries) [];
  unused_allowed_license = unwrap_or (optional_value (codes "unused-allowed-license") lint_of entries) Warn;
  clarify = unwrap_or (optional_value (codes "clarify") (list_of clarification_of) entries) [];
  exceptions = unwrap_or (optional_value (codes "exceptions") (exceptions_of lists) entries) [];
  unused_license_exception = unwrap_or (optional_value (codes "unused-license-exception") lint_of entries) Warn;
  include_dev = unwrap_or (optional_value (codes "include-dev") boolean_of entries) false;
  include_build = unwrap_or (optional_value (codes "include-build") boolean_of entries) true;
  deprecated_spans = places_of_keys removed_keys entries;
}

abbrev pub config_at : CatalogLists → Entries → Span → ShapeReading Config
config_at lists = shaped_by [] (config_rows lists) (config_in lists)

abbrev pub config_of : CatalogLists → Toml → ShapeReading Config
config_of lists = in_table (config_at lists)
