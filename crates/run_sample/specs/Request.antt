-- The request that checks the sample.
use Rattle.std.specs.Prelude.{ℕ, List, [], ◌∷◌, codes, false, Some, None}
use Rattle.spdx_terms.specs.catalog.Catalog.{CatalogLists}
use Rattle.spdx_terms.specs.declared.catalog.identifier.Match.{Match}
use Rattle.diag_core.specs.declared.severity.LevelFilter.TheVariants.{Off}
use Rattle.diag_print.specs.declared.context.Format.TheVariants.{Human}
use Rattle.diag_print.specs.declared.context.Color.TheVariants.{Auto}
use Rattle.diag_print.specs.declared.context.LogContext.{LogContext}
use Rattle.run_request.specs.declared.check.CheckArgs.{CheckArgs}
use Rattle.run_request.specs.declared.context.KrateContext.{KrateContext}
use Rattle.run_request.specs.declared.level.WhichCheck.TheVariants.{Licenses}
use Rattle.run_command.specs.Given.{CommandArguments}
use Rattle.run_check.specs.Given.{check_arguments_of}

-- the check of licences, with no further option
abbrev pub sample_args : CheckArgs
sample_args = record {
  graph = None;
  hide_inclusion_graph = false;
  audit_compatible_output = false;
  show_stats = false;
  lint_levels = record { warn = []; allow = []; deny = [] };
  feature_depth = None;
  which = Licenses ∷ [];
}

-- the files of the sample, in the folder `/s`
abbrev pub sample_context : KrateContext
sample_context = record {
  manifest_path = codes "/s/c0/Cargo.toml";
  config_path = Some (codes "/s/p.toml");
  metadata_path = Some (codes "/s/m.json");
  workspace = false;
  exclude = [];
  targets = [];
  no_default_features = false;
  all_features = false;
  features = [];
  frozen = false;
  locked = false;
  offline = false;
  exclude_dev = false;
  exclude_unpublished = false;
  cwd = codes "/s";
}

-- nothing is reported of what is found
abbrev pub sample_log : LogContext
sample_log = record { format = Human; color = Auto; log_level = Off }

-- what `check licenses` asks for with these files, at level off, with a catalogue and an identifier
abbrev pub sample_request : CatalogLists → (List ℕ → Match) → CommandArguments
sample_request lists match_of = check_arguments_of lists match_of sample_log sample_args sample_context
