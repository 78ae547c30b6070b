-- What a listing is given, but for its files.
use Rattle.std.specs.Prelude.{ℕ, List, Some, false}
use Rattle.spdx_terms.specs.catalog.Catalog.{CatalogLists}
use Rattle.spdx_terms.specs.declared.catalog.identifier.Match.{Match}
use Rattle.diag_print.specs.declared.context.LogContext.{LogContext}
use Rattle.run_request.specs.declared.list.ListArgs.{ListArgs}
use Rattle.run_request.specs.declared.context.KrateContext.{KrateContext}
use Rattle.run_command.specs.Carried.{no_levels, unsupported_of}
use Rattle.run_command.specs.Given.{CommandArguments, CommandOptions, command_arguments_of}

-- The flags of the policy's graph leave no crate out, and the least score of a text is the one that is asked for.
abbrev pub list_options : LogContext → ListArgs → KrateContext → CommandOptions
list_options log args context =
    record {
      unsupported = unsupported_of log context;
      levels = no_levels;
      with_flags = false;
      threshold = Some args.threshold;
      keeps = false;
    }

-- what each command is given, and the options of `list`
pub record ListArguments : Type 0 where
  pub command : CommandArguments
  pub args : ListArgs

abbrev pub list_arguments_of : CatalogLists → (List ℕ → Match) → LogContext → ListArgs → KrateContext → ListArguments
list_arguments_of lists match_of log args context =
    record { command = command_arguments_of lists match_of log context (list_options log args context); args = args }
