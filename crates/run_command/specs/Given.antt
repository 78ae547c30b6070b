-- What a command is given, but for its files.
use Rattle.std.specs.Prelude.{ℕ, ℤ, Bool, List, Option}
use Rattle.graph_workspace.specs.declared.error.UnsupportedPart.{UnsupportedPart}
use Rattle.spdx_terms.specs.catalog.Catalog.{CatalogLists}
use Rattle.spdx_terms.specs.declared.catalog.identifier.Match.{Match}
use Rattle.diag_print.specs.declared.context.LogContext.{LogContext}
use Rattle.run_request.specs.declared.context.KrateContext.{KrateContext}
use Rattle.run_request.specs.declared.level.LintLevels.{LintLevels}
use Rattle.run_found.specs.Given.{RequestArguments, request_arguments_of}
use Rattle.run_request.specs.declared.request.Request.{Request}
use Rattle.run_found.specs.own_names.Given.{ListsAsked, ListsGiven, lists_asked, lists_given, texts_given}

-- In what commands differ before they do their own: the first part of the request that is not carried, the codes and
-- levels that are asked for, whether the flags of the policy's graph leave crates out, the least score of a text, where
-- that is not the policy's, and whether it is kept what each licence file is.
pub record CommandOptions : Type 0 where
  pub unsupported : Option UnsupportedPart
  pub levels : LintLevels
  pub with_flags : Bool
  pub threshold : Option ℤ
  pub keeps : Bool

-- what each command is given, by the names and the texts that count
pub record CommandArguments : Type 0 where
  pub request : RequestArguments
  pub match_of : List ℕ → Match
  pub options : CommandOptions

abbrev pub command_arguments_of : CatalogLists → (List ℕ → Match) → LogContext → KrateContext → CommandOptions
    → CommandArguments
command_arguments_of lists match_of log context options =
    record { request = request_arguments_of lists log context; match_of = match_of; options = options }

-- ---- an organisation's own names and texts

-- a command by the names and texts that are handed in, with the text of each name, and where a catalogue's file and a
-- folder of texts take their place
pub record CommandRequest : Type 0 where
  pub command : CommandArguments
  pub text_of : List ℕ → Option (List ℕ)
  pub own : ListsAsked

-- what is handed in
abbrev pub handed_in : CommandRequest → ListsGiven
handed_in given = lists_given given.command.request.lists (texts_given given.command.match_of given.text_of)

-- the command by other names and texts
abbrev pub command_by : CommandArguments → ListsGiven → CommandArguments
command_by command lists =
    command_arguments_of lists.lists lists.texts.match_of command.request.log command.request.context command.options

-- what a request asks of a command, by what is handed in
abbrev pub command_asked : CatalogLists → (List ℕ → Match) → (List ℕ → Option (List ℕ)) → Request → CommandOptions
    → CommandRequest
command_asked lists match_of text_of request options =
    record {
      command = command_arguments_of lists match_of request.log_ctx request.krate_ctx options;
      text_of = text_of;
      own = lists_asked request.catalog request.store;
    }
