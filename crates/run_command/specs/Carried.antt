-- What of a request for a command over crates is not carried. A command with options of its own may carry less.
use Rattle.std.specs.Prelude.{Bool, false, true, not, ◌==◌, List, [], ◌∷◌, find, length, is_none, None, Option}
use Rattle.std.specs.Prelude.{option_map}
use Rattle.std.specs.List.{list_any}
use Rattle.graph_core.specs.selection.Choice.{is_unsupported}
use Rattle.diag_print.specs.declared.context.LogContext.{LogContext}
use Rattle.run_request.specs.declared.context.KrateContext.{KrateContext}
use Rattle.run_request.specs.declared.level.LintLevels.{LintLevels}
use Rattle.graph_workspace.specs.declared.error.UnsupportedPart.{UnsupportedPart}
use Rattle.graph_workspace.specs.declared.error.UnsupportedPart.TheVariants as what
use Rattle.run_found.specs.Carried.{is_sarif}
use Rattle.run_command.specs.Given.{CommandOptions}

-- whether a part of the request is so that it is not carried, part after part
abbrev pub parts_of : LogContext → KrateContext → List (Bool × UnsupportedPart)
parts_of log context =
    (is_none context.metadata_path, what.MetadataPath)
    ∷ (is_sarif log.format, what.Format)
    ∷ (not (length context.targets == 0), what.Target)
    ∷ (list_any is_unsupported context.exclude, what.ExcludeSpec)
    ∷ []

-- the first such part
abbrev pub unsupported_of : LogContext → KrateContext → Option UnsupportedPart
unsupported_of log context = option_map (λ part. part.1) (find (λ part. part.0) (parts_of log context))

-- no code and no level is asked for
abbrev pub no_levels : LintLevels
no_levels = record { warn = []; allow = []; deny = [] }

-- a command without options of its own: it goes by the policy as it is
abbrev pub plain_options : LogContext → KrateContext → CommandOptions
plain_options log context =
    record {
      unsupported = unsupported_of log context;
      levels = no_levels;
      with_flags = true;
      threshold = None;
      keeps = false;
    }
