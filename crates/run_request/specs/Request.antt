-- What the words of a command line ask for.
use Rattle.std.specs.Prelude.{◌≡◌, ◌||◌, List, [], ◌∷◌, Option, None, Some, option_map, Result, Ok, Err, unwrap_or}
use Rattle.std.specs.Prelude.{codes, if◌then◌else◌}
use Rattle.std.specs.Result.{result_ok}
use Rattle.std.specs.Option.{option_to_list}
use Rattle.std.specs.List.{flat_map, slice_split}
use Rattle.std.specs.Str.{bytes_eq}
use Rattle.deny_text.specs.Path.{join_of}
use Rattle.clap.specs.Words.{Text, Row, first_of, matches_of, subcommand_of}
use Rattle.diag_core.specs.declared.severity.LevelFilter.TheVariants.{Warn}
use Rattle.diag_print.specs.declared.context.LogContext.{LogContext}
use Rattle.diag_print.specs.declared.context.Format.TheVariants.{Human}
use Rattle.diag_print.specs.declared.context.Color.TheVariants.{Auto}
use Rattle.run_request.specs.declared.error.ArgsError.{ArgsError}
use Rattle.run_request.specs.declared.error.ArgsError.TheVariants.{BadValue}
use Rattle.run_request.specs.declared.context.KrateContext.{KrateContext}
use Rattle.run_request.specs.declared.request.Request.{Request}
use Rattle.run_request.specs.declared.request.Subcommand.{Subcommand}
use Rattle.run_request.specs.declared.request.Subcommand.TheVariants.{Check, List as Listing, Sample, Record, Verify}
use Rattle.run_request.specs.declared.request.Subcommand.TheVariants.{Bill, Notice, Why}
use Rattle.run_request.specs.declared.number.SampleSize.{SampleSize}
use Rattle.run_request.specs.Named.{named_in}
use Rattle.run_request.specs.Names.{filter_names, format_names, color_names}
use Rattle.run_request.specs.Number.{sample_size_of}
use Rattle.run_request.specs.Reading.{and_then, first_read, option_words, is_set, is_comma}
use Rattle.run_request.specs.Args.{check_args_of, list_args_of}
use Rattle.run_request.specs.Bill.{bill_args_of}
use Rattle.run_request.specs.Cli.{cli}

-- how findings are written, and which
abbrev pub log_context_of : List Row → Result LogContext ArgsError
log_context_of rows =
    and_then (λ level. and_then (λ format. and_then (λ color. Ok (record {
      format = unwrap_or format Human;
      color = unwrap_or color Auto;
      log_level = unwrap_or level Warn;
    }))
    (first_read (named_in color_names) (codes "color") rows))
    (first_read (named_in format_names) (codes "format") rows))
    (first_read (named_in filter_names) (codes "log-level") rows)

-- the path of an option behind the working folder
abbrev pub path_at : Text → Text → List Row → Option Text
path_at cwd option rows = option_map (join_of cwd) (first_of option rows)

-- which crates of the project are looked at. Paths are behind the working folder, but for that of the policy.
abbrev pub krate_context_of : List Row → Text → KrateContext
krate_context_of rows cwd = record {
  manifest_path = unwrap_or (path_at cwd (codes "manifest-path") rows) (join_of cwd (codes "Cargo.toml"));
  config_path = first_of (codes "config") rows;
  metadata_path = path_at cwd (codes "metadata-path") rows;
  workspace = is_set (codes "workspace") rows;
  exclude = option_words (codes "exclude") rows;
  targets = option_to_list (first_of (codes "target") rows);
  no_default_features = is_set (codes "no-default-features") rows;
  all_features = is_set (codes "all-features") rows;
  features = flat_map (slice_split is_comma) (option_words (codes "features") rows);
  frozen = is_set (codes "frozen") rows;
  locked = is_set (codes "locked") rows || is_set (codes "frozen") rows;
  offline = is_set (codes "offline") rows || is_set (codes "frozen") rows;
  exclude_dev = is_set (codes "exclude-dev") rows;
  exclude_unpublished = is_set (codes "exclude-unpublished") rows;
  cwd = cwd;
}

-- the number of crates of a sample
abbrev pub sample_of : Option SampleSize → Result Subcommand ArgsError
sample_of None = Err (BadValue (codes "N") [])
sample_of (Some size) = Ok (Sample size.0)

-- the verdict file of `verify`
abbrev pub verify_of : Option Text → Result Subcommand ArgsError
verify_of None = Err (BadValue (codes "FILE") [])
verify_of (Some path) = Ok (Verify path)

-- the bill that the rows ask for, beside the one that it is compared with
abbrev pub bill_of : List Row → Option Text → Result Subcommand ArgsError
bill_of rows against = and_then (λ args. Ok (Bill args)) (bill_args_of rows against)

-- the words of `why`
abbrev pub why_of : List Row → Result Subcommand ArgsError
why_of rows = Ok (Why (option_words (codes "CRATE") rows))

-- the subcommand of that name with these rows
abbrev pub subcommand_named : Text → List Row → Text → Result Subcommand ArgsError
subcommand_named name rows cwd =
    if bytes_eq name (codes "check") then and_then (λ args. Ok (Check args)) (check_args_of rows)
    else if bytes_eq name (codes "list") then and_then (λ args. Ok (Listing args)) (list_args_of rows)
    else if bytes_eq name (codes "record") then Ok Record
    else if bytes_eq name (codes "verify") then verify_of (path_at cwd (codes "FILE") rows)
    else if bytes_eq name (codes "bill") then bill_of rows (path_at cwd (codes "against") rows)
    else if bytes_eq name (codes "notice") then Ok Notice
    else if bytes_eq name (codes "why") then why_of rows
    else if bytes_eq name (codes "sample") then and_then sample_of (first_read sample_size_of (codes "N") rows)
    else Err (BadValue (codes "COMMAND") name)

-- the subcommand that the words name
abbrev pub subcommand_asked : Option (Text × List Row) → Text → Result Subcommand ArgsError
subcommand_asked None cwd = Err (BadValue (codes "COMMAND") [])
subcommand_asked (Some named) cwd = subcommand_named named.0 named.1 cwd

-- the command is the one of that name, with the values that its rows give
abbrev pub IsCommandOf : Text → List Row → Text → Subcommand → Type 0
IsCommandOf name rows cwd (Check args) = (name ≡ codes "check") × (check_args_of rows ≡ Ok args)
IsCommandOf name rows cwd (Listing args) = (name ≡ codes "list") × (list_args_of rows ≡ Ok args)
IsCommandOf name rows cwd Record = name ≡ codes "record"
IsCommandOf name rows cwd (Verify path) = (name ≡ codes "verify") × (path_at cwd (codes "FILE") rows ≡ Some path)
IsCommandOf name rows cwd (Bill args) =
    (name ≡ codes "bill") × (bill_args_of rows (path_at cwd (codes "against") rows) ≡ Ok args)
IsCommandOf name rows cwd Notice = name ≡ codes "notice"
IsCommandOf name rows cwd (Why words) = (name ≡ codes "why") × (words ≡ option_words (codes "CRATE") rows)
IsCommandOf name rows cwd (Sample size) =
    (name ≡ codes "sample") × (first_read sample_size_of (codes "N") rows ≡ Ok (Some (record { 0 = size })))

-- what the rows ask for, or the first value that is outside its table, or a depth beside hidden graphs
abbrev pub request_of_rows : List Row → Option (Text × List Row) → Text → Result Request ArgsError
request_of_rows rows below cwd =
    and_then (λ log_ctx. and_then (λ command. Ok (record {
      log_ctx = log_ctx;
      manifest_path = path_at cwd (codes "manifest-path") rows;
      catalog = path_at cwd (codes "catalog") rows;
      store = path_at cwd (codes "store") rows;
      krate_ctx = krate_context_of rows cwd;
      command = command;
    }))
    (subcommand_asked below cwd))
    (log_context_of rows)

-- a second word `deny` is dropped, one and no more: `cargo deny` passes it on
abbrev pub without_deny : List Text → List Text
without_deny [] = []
without_deny (word ∷ words) = if bytes_eq word (codes "deny") then words else word ∷ words

-- the words of a command line that are read; no words are the program's name alone
abbrev pub gate_words : List Text → List Text
gate_words [] = codes "cargo-deny" ∷ []
gate_words (program ∷ words) = program ∷ without_deny words

-- what the words that are read ask for, where the command line takes them
abbrev pub request_in : List Text → Text → Option Request
request_in words cwd = result_ok (request_of_rows (matches_of cli words) (subcommand_of cli words) cwd)

-- what the words ask for, where the command line takes them
abbrev pub request_of : List Text → Text → Option Request
request_of words cwd = request_in (gate_words words) cwd
