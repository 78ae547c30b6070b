-- The command of a request is the one that the words name, with the values that they give it.
use Rattle.std.proofs.Common.{◌≡◌, ◌≤◌, ◌&&◌, ℕ, nat_le, arith, Bool, true, false, List, refl, ap, subst, cond, Option, None, Some, Result, Ok, Err}
use Rattle.std.proofs.lemmas.Bool.Decides.{nat_tests}
use Rattle.std.proofs.lemmas.Slice.Eq.{bytes_eq-Decides}
use Rattle.std.specs.Prelude.{IfOk, codes}
use Rattle.std.specs.Option.{IsSomeAnd, ok_or, option_and_then}
use Rattle.std.specs.Result.{result_ok}
use Rattle.std.specs.Str.{bytes_eq}
use Rattle.clap.specs.Words.{Text, Row, first_of, matches_of, subcommand_of}
use Rattle.diag_print.specs.declared.context.LogContext.{LogContext}
use Rattle.run_request.specs.declared.bill.BillArgs.{BillArgs}
use Rattle.run_request.specs.declared.check.CheckArgs.{CheckArgs}
use Rattle.run_request.specs.declared.list.ListArgs.{ListArgs}
use Rattle.run_request.specs.declared.error.ArgsError.{ArgsError}
use Rattle.run_request.specs.declared.error.ArgsError.TheVariants.{BadValue}
use Rattle.run_request.specs.declared.number.SampleSize.{SampleSize}
use Rattle.run_request.specs.declared.read.CliAnswer.{CliAnswer}
use Rattle.run_request.specs.declared.read.CliAnswer.TheVariants.{Asked, Shown, Usage}
use Rattle.run_request.specs.declared.request.Request.{Request}
use Rattle.run_request.specs.declared.request.Subcommand.{Subcommand}
use Rattle.run_request.specs.declared.request.Subcommand.TheVariants.{Check, List as Listing, Sample, Record, Verify, Bill, Notice, Why}
use Rattle.run_request.specs.Args.{check_args_of, list_args_of}
use Rattle.run_request.specs.Bill.{bill_args_of}
use Rattle.run_request.specs.Cli.{cli}
use Rattle.run_request.specs.Given.{HasSize, IsCommandAsked, IsGivenFor, IsSized}
use Rattle.run_request.specs.Number.{number_of, sample_size_of, size_of}
use Rattle.run_request.specs.Reading.{and_then, first_read, maybe_read}
use Rattle.run_request.specs.Request.{IsCommandOf, krate_context_of, log_context_of, path_at, request_in, sample_of, subcommand_asked, verify_of, why_of}

same_value : {T E : Type 0} {one two : T} → ◌≡◌ {A = Result T E} (Ok one) (Ok two) → one ≡ two
same_value e = cc

same_some : {T : Type 0} {one two : T} → Some one ≡ Some two → one ≡ two
same_some e = cc

-- ---- a subcommand by its name

by_check : (name : Text) (rows : List Row) (cwd : Text) (command : Subcommand) (read : Result CheckArgs ArgsError) → name ≡ codes "check" → check_args_of rows ≡ read
    → and_then (λ args. Ok (Check args)) read ≡ Ok command → IsCommandOf name rows cwd command
by_check name rows cwd command (Ok args) is reads e = subst (IsCommandOf name rows cwd) (same_value e) (is, reads)
by_check name rows cwd command (Err error) is reads e = absurd (cc)

by_list : (name : Text) (rows : List Row) (cwd : Text) (command : Subcommand) (read : Result ListArgs ArgsError) → name ≡ codes "list" → list_args_of rows ≡ read
    → and_then (λ args. Ok (Listing args)) read ≡ Ok command → IsCommandOf name rows cwd command
by_list name rows cwd command (Ok args) is reads e = subst (IsCommandOf name rows cwd) (same_value e) (is, reads)
by_list name rows cwd command (Err error) is reads e = absurd (cc)

by_record : (name : Text) (rows : List Row) (cwd : Text) (command : Subcommand) → name ≡ codes "record" → ◌≡◌ {A = Result Subcommand ArgsError} (Ok Record) (Ok command)
    → IsCommandOf name rows cwd command
by_record name rows cwd command is e = subst (IsCommandOf name rows cwd) (same_value e) is

by_verify : (name : Text) (rows : List Row) (cwd : Text) (command : Subcommand) (path : Option Text) → name ≡ codes "verify" → path_at cwd (codes "FILE") rows ≡ path
    → verify_of path ≡ Ok command → IsCommandOf name rows cwd command
by_verify name rows cwd command (Some path) is reads e = subst (IsCommandOf name rows cwd) (same_value e) (is, reads)
by_verify name rows cwd command None is reads e = absurd (cc)

by_bill : (name : Text) (rows : List Row) (cwd : Text) (command : Subcommand) (read : Result BillArgs ArgsError) → name ≡ codes "bill"
    → bill_args_of rows (path_at cwd (codes "against") rows) ≡ read → and_then (λ args. Ok (Bill args)) read ≡ Ok command → IsCommandOf name rows cwd command
by_bill name rows cwd command (Ok args) is reads e = subst (IsCommandOf name rows cwd) (same_value e) (is, reads)
by_bill name rows cwd command (Err error) is reads e = absurd (cc)

by_notice : (name : Text) (rows : List Row) (cwd : Text) (command : Subcommand) → name ≡ codes "notice" → ◌≡◌ {A = Result Subcommand ArgsError} (Ok Notice) (Ok command) → IsCommandOf name rows cwd command
by_notice name rows cwd command is e = subst (IsCommandOf name rows cwd) (same_value e) is

by_why : (name : Text) (rows : List Row) (cwd : Text) (command : Subcommand) → name ≡ codes "why" → why_of rows ≡ Ok command → IsCommandOf name rows cwd command
by_why name rows cwd command is e = subst (IsCommandOf name rows cwd) (same_value e) (is, refl)

by_sample : (name : Text) (rows : List Row) (cwd : Text) (command : Subcommand) (read : Result (Option SampleSize) ArgsError) → name ≡ codes "sample"
    → first_read sample_size_of (codes "N") rows ≡ read → and_then sample_of read ≡ Ok command → IsCommandOf name rows cwd command
by_sample name rows cwd command (Ok (Some size)) is reads e = subst (IsCommandOf name rows cwd) (same_value e) (is, reads)
by_sample name rows cwd command (Ok None) is reads e = absurd (cc)
by_sample name rows cwd command (Err error) is reads e = absurd (cc)

-- one of two answers, by a test of the name
by_test : (P : Result Subcommand ArgsError → Type 0) (test : Bool) (one other : Result Subcommand ArgsError) → (test ≡ true → P one) → P other → P (cond test one other)
by_test P true one other here later = here refl
by_test P false one other here later = later

named : (below : Option (Text × List Row)) (cwd : Text) (command : Subcommand) → subcommand_asked below cwd ≡ Ok command
    → IsSomeAnd below (λ named. IsCommandOf named.0 named.1 cwd command)
named None cwd command e = absurd (cc)
named (Some below) cwd command e =
    let name : Text = below.0 in
    let rows : List Row = below.1 in
    let P : Result Subcommand ArgsError → Type 0 = λ asked. asked ≡ Ok command → IsCommandOf name rows cwd command in
    by_test P (bytes_eq name (codes "check")) _ _ (λ is. by_check name rows cwd command (check_args_of rows) ((bytes_eq-Decides name (codes "check")).0 is) refl)
    (by_test P (bytes_eq name (codes "list")) _ _ (λ is. by_list name rows cwd command (list_args_of rows) ((bytes_eq-Decides name (codes "list")).0 is) refl)
    (by_test P (bytes_eq name (codes "record")) _ _ (λ is. by_record name rows cwd command ((bytes_eq-Decides name (codes "record")).0 is))
    (by_test P (bytes_eq name (codes "verify")) _ _ (λ is. by_verify name rows cwd command (path_at cwd (codes "FILE") rows) ((bytes_eq-Decides name (codes "verify")).0 is) refl)
    (by_test P (bytes_eq name (codes "bill")) _ _
    (λ is. by_bill name rows cwd command (bill_args_of rows (path_at cwd (codes "against") rows)) ((bytes_eq-Decides name (codes "bill")).0 is) refl)
    (by_test P (bytes_eq name (codes "notice")) _ _ (λ is. by_notice name rows cwd command ((bytes_eq-Decides name (codes "notice")).0 is))
    (by_test P (bytes_eq name (codes "why")) _ _ (λ is. by_why name rows cwd command ((bytes_eq-Decides name (codes "why")).0 is))
    (by_test P (bytes_eq name (codes "sample")) _ _
    (λ is. by_sample name rows cwd command (first_read sample_size_of (codes "N") rows) ((bytes_eq-Decides name (codes "sample")).0 is) refl)
    (λ none. absurd (cc))))))))) e

-- ---- the command of a request

abbrev with_command : List Row → Text → LogContext → Subcommand → Request
with_command rows cwd log_ctx command = record {
  log_ctx = log_ctx;
  manifest_path = path_at cwd (codes "manifest-path") rows;
  catalog = path_at cwd (codes "catalog") rows;
  store = path_at cwd (codes "store") rows;
  krate_ctx = krate_context_of rows cwd;
  command = command;
}

asks : (rows : List Row) (cwd : Text) (log : Result LogContext ArgsError) (asked : Result Subcommand ArgsError) (request : Request)
    → result_ok (and_then (λ log_ctx. and_then (λ command. Ok (with_command rows cwd log_ctx command)) asked) log) ≡ Some request → asked ≡ Ok request.command
asks rows cwd (Err error) asked request e = absurd (cc)
asks rows cwd (Ok log) (Err error) request e = absurd (cc)
asks rows cwd (Ok log) (Ok command) request e =
    let command_in : Request → Result Subcommand ArgsError = λ one. Ok one.command in
    ap command_in (same_some e)

pub asks_command : (words : List Text) (cwd : Text) (request : Request) → request_in words cwd ≡ Some request
    → IsSomeAnd (subcommand_of cli words) (λ named. IsCommandOf named.0 named.1 cwd request.command)
asks_command words cwd request e =
    let rows = matches_of cli words in
    named (subcommand_of cli words) cwd request.command
    (asks rows cwd (log_context_of rows) (subcommand_asked (subcommand_of cli words) cwd) request e)

pub command_clause : {E : Type 0} (words : List Text) (cwd : Text) (r : Result CliAnswer E) → IfOk r (IsGivenFor words cwd) → IfOk r (IsCommandAsked words cwd)
command_clause words cwd (Ok (Asked request)) is = asks_command words cwd request is.1
command_clause words cwd (Ok (Shown text)) is = tt
command_clause words cwd (Ok (Usage text)) is = tt
command_clause words cwd (Err error) is = tt

-- ---- the size of a sample

-- what is read of a word that stands for a size is at most 20,000
abbrev FitsSize : Option SampleSize → Type 0
FitsSize None = Unit {0}
FitsSize (Some size) = size.0 ≤ 20000

at_most : (number limit : ℕ) → nat_le number limit ≡ true → number ≤ limit
at_most number limit is = grind (arith, nat_tests)

sized : (number : ℕ) → FitsSize (size_of number)
sized number = go (nat_le 1 number) (nat_le number 20000) refl
  where
    go : (low high : Bool) → nat_le number 20000 ≡ high → FitsSize (cond (low && high) (Some (record { 0 = number })) None)
    go true true is = at_most number 20000 is
    go true false is = tt
    go false high is = tt

size_fits : (number : Option ℕ) → FitsSize (option_and_then size_of number)
size_fits None = tt
size_fits (Some number) = sized number

first_fits : (word : Option Text) (size : ℕ) → maybe_read sample_size_of (codes "N") word ≡ Ok (Some (record { 0 = size })) → size ≤ 20000
first_fits None size e = absurd (cc)
first_fits (Some word) size e = go (sample_size_of word) (size_fits (number_of word)) e
  where
    go : (read : Option SampleSize) → FitsSize read → and_then (λ value. Ok (Some value)) (ok_or read (BadValue (codes "N") word)) ≡ Ok (Some (record { 0 = size })) → size ≤ 20000
    go None fits e = absurd (cc)
    go (Some found) fits e =
        let number : SampleSize → ℕ = λ one. one.0 in
        subst (λ n. n ≤ 20000) (ap number (same_some (same_value e))) fits

command_sized : (name : Text) (rows : List Row) (cwd : Text) (command : Subcommand) → IsCommandOf name rows cwd command → IsSized command
command_sized name rows cwd (Check args) is = tt
command_sized name rows cwd (Listing args) is = tt
command_sized name rows cwd Record is = tt
command_sized name rows cwd (Verify path) is = tt
command_sized name rows cwd (Bill args) is = tt
command_sized name rows cwd Notice is = tt
command_sized name rows cwd (Why words) is = tt
command_sized name rows cwd (Sample size) is = first_fits (first_of (codes "N") rows) size is.1

sized_in : (below : Option (Text × List Row)) (cwd : Text) (command : Subcommand) → IsSomeAnd below (λ named. IsCommandOf named.0 named.1 cwd command) → IsSized command
sized_in None cwd command is = absurd is
sized_in (Some below) cwd command is = command_sized below.0 below.1 cwd command is

pub size_clause : {E : Type 0} (words : List Text) (cwd : Text) (r : Result CliAnswer E) → IfOk r (IsCommandAsked words cwd) → IfOk r HasSize
size_clause words cwd (Ok (Asked request)) is = sized_in (subcommand_of cli words) cwd request.command is
size_clause words cwd (Ok (Shown text)) is = tt
size_clause words cwd (Ok (Usage text)) is = tt
size_clause words cwd (Err error) is = tt
