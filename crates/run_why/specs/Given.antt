-- What `why` is given, but for its files.
use Rattle.std.specs.Prelude.{ℕ, true, List, Option, Some, None, if◌then◌else◌}
use Rattle.spdx_terms.specs.catalog.Catalog.{CatalogLists}
use Rattle.spdx_terms.specs.declared.catalog.identifier.Match.{Match}
use Rattle.diag_print.specs.declared.context.LogContext.{LogContext}
use Rattle.graph_workspace.specs.declared.error.UnsupportedPart.{UnsupportedPart}
use Rattle.graph_workspace.specs.declared.error.UnsupportedPart.TheVariants.{ExcludeSpec}
use Rattle.run_request.specs.declared.context.KrateContext.{KrateContext}
use Rattle.run_command.specs.Carried as command
use Rattle.run_command.specs.Carried.{no_levels}
use Rattle.run_command.specs.Given.{CommandArguments, CommandOptions, command_arguments_of}
use Rattle.run_why.specs.Named.{has_unsupported}

-- a part of the request that is not carried, or else a word with a `/` or a `#`
abbrev pub unsupported_by : Option UnsupportedPart → List (List ℕ) → Option UnsupportedPart
unsupported_by (Some what) words = Some what
unsupported_by None words = if has_unsupported words then Some ExcludeSpec else None

abbrev pub unsupported_of : LogContext → KrateContext → List (List ℕ) → Option UnsupportedPart
unsupported_of log context words = unsupported_by (command.unsupported_of log context) words

-- the policy counts as it is, with its flags, no level is asked for, and it is kept what each licence file is
abbrev pub why_options : LogContext → KrateContext → List (List ℕ) → CommandOptions
why_options log context words = record {
  unsupported = unsupported_of log context words;
  levels = no_levels;
  with_flags = true;
  threshold = None;
  keeps = true;
}

-- what each command is given, and the words that name crates
pub record WhyArguments : Type 0 where
  pub command : CommandArguments
  pub words : List (List ℕ)

abbrev pub why_arguments_of : CatalogLists → (List ℕ → Match) → LogContext → KrateContext → List (List ℕ) → WhyArguments
why_arguments_of lists match_of log context words =
    record { command = command_arguments_of lists match_of log context (why_options log context words); words = words }
