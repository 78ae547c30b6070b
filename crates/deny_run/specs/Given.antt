-- What the run is given, but for its files.
use Rattle.std.specs.Prelude.{ℕ, List, Option, Some, None}
use Rattle.std.specs.declared.string.String.{String}
use Rattle.spdx_terms.specs.catalog.Catalog.{CatalogLists}
use Rattle.spdx_terms.specs.declared.catalog.identifier.Match.{Match}
use Rattle.run_request.specs.declared.request.Request.{Request}
use Rattle.run_request.specs.declared.request.Subcommand.{Subcommand}
use Rattle.run_request.specs.declared.request.Subcommand.TheVariants.{Check, List as Listing, Sample, Record, Verify}
use Rattle.run_request.specs.declared.request.Subcommand.TheVariants.{Bill, Notice, Why}
use Rattle.run_request.specs.Given.{texts}
use Rattle.run_command.specs.Carried.{plain_options}
use Rattle.run_command.specs.Given.{CommandRequest, CommandOptions, command_asked}
use Rattle.run_check.specs.Given.{check_options}
use Rattle.run_list.specs.Given.{list_options}
use Rattle.run_why.specs.Given.{why_options}

-- the catalogue's lists, what the identifier says of each text, the text that it keeps under each name, the words and
-- the working folder
pub record RunArguments : Type 0 where
  pub lists : CatalogLists
  pub match_of : List ℕ → Match
  pub text_of : List ℕ → Option (List ℕ)
  pub words : List (List ℕ)
  pub cwd : List ℕ

abbrev pub run_arguments_of : {A : Type 0} → CatalogLists → (List ℕ → Match) → (List ℕ → Option (List ℕ))
    → List (String A) → List ℕ → RunArguments
run_arguments_of lists match_of text_of words cwd =
    record { lists = lists; match_of = match_of; text_of = text_of; words = texts words; cwd = cwd }

-- in what the command of a request differs from the others; a sample is over no crates of a request
abbrev pub options_of : Request → Subcommand → Option CommandOptions
options_of request (Check args) = Some (check_options request.log_ctx args request.krate_ctx)
options_of request (Listing args) = Some (list_options request.log_ctx args request.krate_ctx)
options_of request (Sample size) = None
options_of request Record = Some (plain_options request.log_ctx request.krate_ctx)
options_of request (Verify path) = Some (plain_options request.log_ctx request.krate_ctx)
options_of request (Bill args) = Some (plain_options request.log_ctx request.krate_ctx)
options_of request Notice = Some (plain_options request.log_ctx request.krate_ctx)
options_of request (Why words) = Some (why_options request.log_ctx request.krate_ctx words)

-- what a request asks of a command with these options
abbrev pub asked_of : RunArguments → Request → CommandOptions → CommandRequest
asked_of given request options = command_asked given.lists given.match_of given.text_of request options
