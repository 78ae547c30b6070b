-- The laws of requests.
use Rattle.std.proofs.Common.{◌≡◌, List, [], ◌∷◌, refl, sym, ap, subst, cond, Bool, true, false, Option, None, Some, option_map, Result, Ok, Err}
use Rattle.std.specs.Prelude.{codes}
use Rattle.std.specs.Result.{result_ok}
use Rattle.std.specs.Str.{bytes_eq}
use Rattle.clap.specs.Words.{Text, Row, first_of, matches_of, subcommand_of}
use Rattle.check_bill.specs.declared.forms.TextForm.TheVariants.{Word, Moment}
use Rattle.run_request.specs.declared.bill.BillArgs.{BillArgs}
use Rattle.run_request.specs.declared.error.ArgsError.{ArgsError}
use Rattle.run_request.specs.declared.request.Request.{Request}
use Rattle.run_request.specs.declared.request.Subcommand.{Subcommand}
use Rattle.run_request.specs.declared.request.Subcommand.TheVariants.{Bill, Notice, Record}
use Rattle.run_request.specs.declared.context.KrateContext.{KrateContext}
use Rattle.diag_print.specs.declared.context.LogContext.{LogContext}
use Rattle.deny_text.specs.Path.{join_of}
use Rattle.run_request.specs.Bill.{bill_args_of, formed}
use Rattle.run_request.specs.Cli.{cli}
use Rattle.run_request.specs.Reading.{and_then}
use Rattle.run_request.specs.Request.{request_of_rows, gate_words, krate_context_of, log_context_of, path_at, subcommand_asked, verify_of, why_of}
use Rattle.run_request.specs.Given.{IsGivenFor}
use Rattle.run_request.specs.Laws.{SecondDenyChangesNothing, FolderShowsInPaths, command_hidden, hidden_path, without_folder}

pub second_deny : SecondDenyChangesNothing
second_deny program words cwd given same =
    let P : List Text → Type 0 = λ kept. IsGivenFor (program ∷ kept) cwd given in
    (λ is. subst P (sym same) is, λ is. subst P same is)

gone : (path : Option Text) (f g : Text → Text) → hidden_path (option_map f path) ≡ hidden_path (option_map g path)
gone None f g = refl
gone (Some path) f g = refl

-- the request, once the options and the subcommand were read
abbrev read_of : List Row → LogContext → Subcommand → Text → Request
read_of rows log_ctx command cwd = record {
  log_ctx = log_ctx;
  manifest_path = path_at cwd (codes "manifest-path") rows;
  catalog = path_at cwd (codes "catalog") rows;
  store = path_at cwd (codes "store") rows;
  krate_ctx = krate_context_of rows cwd;
  command = command;
}

same_read : (rows : List Row) (log_ctx : LogContext) (command further : Subcommand) (one other : Text) → command_hidden command ≡ command_hidden further
    → without_folder (read_of rows log_ctx command one) ≡ without_folder (read_of rows log_ctx further other)
same_read rows log_ctx command further one other same =
    let manifest = gone (first_of (codes "manifest-path") rows) (join_of one) (join_of other) in
    let catalog = gone (first_of (codes "catalog") rows) (join_of one) (join_of other) in
    let store = gone (first_of (codes "store") rows) (join_of one) (join_of other) in
    let metadata = gone (first_of (codes "metadata-path") rows) (join_of one) (join_of other) in
    let context : KrateContext = krate_context_of rows [] in
    λ i. record {
      log_ctx = log_ctx;
      manifest_path = manifest i;
      catalog = catalog i;
      store = store i;
      krate_ctx = record context { manifest_path = []; metadata_path = metadata i; cwd = [] };
      command = same i;
    }

-- two answers in different folders: commands that differ in a path, or refusals
abbrev SameAsked : Result Subcommand ArgsError → Result Subcommand ArgsError → Type 0
SameAsked (Ok command) (Ok further) = command_hidden command ≡ command_hidden further
SameAsked (Ok command) (Err error) = ⊥
SameAsked (Err error) (Ok command) = ⊥
SameAsked (Err error) (Err other) = Unit {0}

same_as : (asked : Result Subcommand ArgsError) → SameAsked asked asked
same_as (Ok command) = refl
same_as (Err error) = tt

same_file : (file : Option Text) (one other : Text) → SameAsked (verify_of (option_map (join_of one) file)) (verify_of (option_map (join_of other) file))
same_file None one other = tt
same_file (Some file) one other = refl

-- a bill that is compared with one is compared with some bill in each folder
abbrev bill_with : Result Text ArgsError → Result Text ArgsError → Result Text ArgsError → Option Text → Result Subcommand ArgsError
bill_with name namespace created against =
    and_then (λ (args : BillArgs). Ok (Bill args))
    (and_then (λ n. and_then (λ a. and_then (λ c. Ok (record { name = n; namespace = a; created = c; against = against })) created) namespace) name)

same_bill_by : (name namespace created : Result Text ArgsError) (against : Option Text) (f g : Text → Text)
    → SameAsked (bill_with name namespace created (option_map f against)) (bill_with name namespace created (option_map g against))
same_bill_by (Err error) namespace created against f g = tt
same_bill_by (Ok name) (Err error) created against f g = tt
same_bill_by (Ok name) (Ok namespace) (Err error) against f g = tt
same_bill_by (Ok name) (Ok namespace) (Ok created) against f g =
    ap (λ hidden. Bill (record { name = name; namespace = namespace; created = created; against = hidden })) (gone against f g)

same_bill : (rows : List Row) (against : Option Text) (one other : Text)
    → SameAsked (and_then (λ args. Ok (Bill args)) (bill_args_of rows (option_map (join_of one) against))) (and_then (λ args. Ok (Bill args)) (bill_args_of rows (option_map (join_of other) against)))
same_bill rows against one other =
    same_bill_by (formed Word (codes "name") rows) (formed Word (codes "namespace") rows) (formed Moment (codes "created") rows) against (join_of one) (join_of other)

same_if : (test : Bool) (a b c d : Result Subcommand ArgsError) → SameAsked a b → SameAsked c d → SameAsked (cond test a c) (cond test b d)
same_if true a b c d here later = here
same_if false a b c d here later = later

same_asked : (below : Option (Text × List Row)) (one other : Text) → SameAsked (subcommand_asked below one) (subcommand_asked below other)
same_asked None one other = tt
same_asked (Some below) one other =
    same_if (bytes_eq below.0 (codes "check")) _ _ _ _ (same_as _)
    (same_if (bytes_eq below.0 (codes "list")) _ _ _ _ (same_as _)
    (same_if (bytes_eq below.0 (codes "record")) _ _ _ _ (same_as (Ok Record))
    (same_if (bytes_eq below.0 (codes "verify")) _ _ _ _ (same_file (first_of (codes "FILE") below.1) one other)
    (same_if (bytes_eq below.0 (codes "bill")) _ _ _ _ (same_bill below.1 (first_of (codes "against") below.1) one other)
    (same_if (bytes_eq below.0 (codes "notice")) _ _ _ _ (same_as (Ok Notice))
    (same_if (bytes_eq below.0 (codes "why")) _ _ _ _ (same_as (why_of below.1)) (same_as _)))))))

by_command : (rows : List Row) (log_ctx : LogContext) (one other : Text) (command further : Result Subcommand ArgsError) → SameAsked command further
    → option_map without_folder (result_ok (and_then (λ command. Ok (read_of rows log_ctx command one)) command))
    ≡ option_map without_folder (result_ok (and_then (λ command. Ok (read_of rows log_ctx command other)) further))
by_command rows log_ctx one other (Ok command) (Ok further) same = ap Some (same_read rows log_ctx command further one other same)
by_command rows log_ctx one other (Ok command) (Err error) same = absurd same
by_command rows log_ctx one other (Err error) (Ok further) same = absurd same
by_command rows log_ctx one other (Err error) (Err further) same = refl

by_log : (rows : List Row) (below further : Result Subcommand ArgsError) (one other : Text) (log_ctx : Result LogContext ArgsError) → SameAsked below further
    → option_map without_folder (result_ok (and_then (λ log_ctx. and_then (λ command. Ok (read_of rows log_ctx command one)) below) log_ctx))
    ≡ option_map without_folder (result_ok (and_then (λ log_ctx. and_then (λ command. Ok (read_of rows log_ctx command other)) further) log_ctx))
by_log rows below further one other (Ok log_ctx) same = by_command rows log_ctx one other below further same
by_log rows below further one other (Err error) same = refl

asked_same : (rows : List Row) (below : Option (Text × List Row)) (one other : Text)
    → option_map without_folder (result_ok (request_of_rows rows below one)) ≡ option_map without_folder (result_ok (request_of_rows rows below other))
asked_same rows below one other =
    by_log rows (subcommand_asked below one) (subcommand_asked below other) one other (log_context_of rows) (same_asked below one other)

pub folder_shows : FolderShowsInPaths
folder_shows words one other = asked_same (matches_of cli (gate_words words)) (subcommand_of cli (gate_words words)) one other
