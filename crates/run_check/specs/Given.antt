-- What a check is given, but for its files: what each command is, by its own options.
use Rattle.std.specs.Prelude.{ℕ, true, false, List, Option, None}
use Rattle.spdx_terms.specs.catalog.Catalog.{CatalogLists}
use Rattle.spdx_terms.specs.declared.catalog.identifier.Match.{Match}
use Rattle.diag_print.specs.declared.context.LogContext.{LogContext}
use Rattle.graph_workspace.specs.declared.error.UnsupportedPart.{UnsupportedPart}
use Rattle.run_request.specs.declared.check.CheckArgs.{CheckArgs}
use Rattle.run_request.specs.declared.context.KrateContext.{KrateContext}
use Rattle.run_request.specs.declared.level.LintLevels.{LintLevels}
use Rattle.run_command.specs.Given.{CommandArguments, CommandOptions, command_arguments_of}
use Rattle.run_check.specs.Carried.{unsupported_of}

-- the policy counts as it is, with its flags, and findings come out at these levels
abbrev pub report_options : LintLevels → Option UnsupportedPart → CommandOptions
report_options levels unsupported =
    record { unsupported = unsupported; levels = levels; with_flags = true; threshold = None; keeps = false }

-- the options of `check`
abbrev pub check_options : LogContext → CheckArgs → KrateContext → CommandOptions
check_options log args context = report_options args.lint_levels (unsupported_of log args context)

abbrev pub check_arguments_of : CatalogLists → (List ℕ → Match) → LogContext → CheckArgs → KrateContext
    → CommandArguments
check_arguments_of lists match_of log args context =
    command_arguments_of lists match_of log context (check_options log args context)
