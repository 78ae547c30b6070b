-- Which answer words get.
use Rattle.std.specs.Prelude.{◌≡◌, ◌≤◌, ◌≢◌, ◌⊎◌, Bool, true, false, not, List, [], Option, None, Some, Ok, is_err, map}
use Rattle.std.specs.Prelude.{string_bytes}
use Rattle.std.specs.List.{list_any}
use Rattle.std.specs.Option.{IsSomeAnd}
use Rattle.std.specs.declared.string.String.{String}
use Rattle.clap.specs.Words.{Text, Row, Kinds, fault_of, found_of, rows_of, matches_of, subcommand_of}
use Rattle.clap.specs.Words.{subcommand_rows_of}
use Rattle.clap.specs.declared.parser.matches.ArgMatches.{ArgMatches}
use Rattle.clap.specs.declared.error.kind.ErrorKind.{ErrorKind}
use Rattle.clap.specs.declared.error.kind.ErrorKind.TheVariants.{DisplayHelp, DisplayVersion, OutOfMemory}
use Rattle.run_request.specs.declared.request.Request.{Request}
use Rattle.run_request.specs.declared.read.CliAnswer.{CliAnswer}
use Rattle.run_request.specs.declared.read.CliAnswer.TheVariants.{Asked, Shown, Usage}
use Rattle.run_request.specs.declared.request.Subcommand.{Subcommand}
use Rattle.run_request.specs.declared.request.Subcommand.TheVariants.{Check, List as Listing, Sample, Record, Verify}
use Rattle.run_request.specs.declared.request.Subcommand.TheVariants.{Bill, Notice, Why}
use Rattle.run_request.specs.Cli.{cli}
use Rattle.run_request.specs.Request.{IsCommandOf, gate_words, request_in, request_of_rows}

-- the words as texts
abbrev pub texts : {A : Type 0} → List (String A) → List Text
texts words = map string_bytes words

-- the kinds of fault that the command line may find in words that are read; none where it takes them
abbrev pub word_faults : List Text → Kinds
word_faults words = fault_of cli words

-- the command line takes the words
abbrev pub Takes : List Text → Type 0
Takes words = word_faults words ≡ []

-- help or the version is asked for
abbrev pub is_display : ErrorKind → Bool
is_display DisplayHelp = true
is_display DisplayVersion = true
is_display _ = false

-- help or the version is among what the words may be taken for
abbrev pub may_show : Kinds → Bool
may_show kinds = list_any is_display kinds

-- a mistake is among what the words may be taken for
abbrev pub may_refuse : Kinds → Bool
may_refuse kinds = list_any (λ kind. not (is_display kind)) kinds

-- The answer is one that the words allow, which are read as they are: a request where they are taken and ask for it; a
-- text to show where they may be taken for a call for help or the version; a refusal where they may be taken for a
-- mistake, or are taken and ask for nothing, since a value is outside its table or a depth is beside hidden graphs.
abbrev pub IsGivenFor : List Text → Text → CliAnswer → Type 0
IsGivenFor words cwd (Asked request) = Takes words × (request_in words cwd ≡ Some request)
IsGivenFor words cwd (Shown text) = may_show (word_faults words) ≡ true
IsGivenFor words cwd (Usage text) =
    (may_refuse (word_faults words) ≡ true) ⊎ (Takes words × (request_in words cwd ≡ None))

-- the same of a command line, of which a second word `deny` is dropped
abbrev pub IsGiven : List Text → Text → CliAnswer → Type 0
IsGiven words cwd given = IsGivenFor (gate_words words) cwd given

-- the command of a request is the subcommand of the command line that the words name, with the values that they give it
abbrev pub IsCommandAsked : List Text → Text → CliAnswer → Type 0
IsCommandAsked words cwd (Asked request) =
    IsSomeAnd (subcommand_of cli words) (λ named. IsCommandOf named.0 named.1 cwd request.command)
IsCommandAsked words cwd (Shown text) = Unit {0}
IsCommandAsked words cwd (Usage text) = Unit {0}

-- a sample has at most 20,000 crates
abbrev pub IsSized : Subcommand → Type 0
IsSized (Check args) = Unit {0}
IsSized (Listing args) = Unit {0}
IsSized Record = Unit {0}
IsSized (Verify path) = Unit {0}
IsSized (Bill args) = Unit {0}
IsSized Notice = Unit {0}
IsSized (Why words) = Unit {0}
IsSized (Sample size) = size ≤ 20000

abbrev pub HasSize : CliAnswer → Type 0
HasSize (Asked request) = IsSized request.command
HasSize (Shown text) = Unit {0}
HasSize (Usage text) = Unit {0}

-- a text to show
abbrev pub IsShown : CliAnswer → Type 0
IsShown (Asked request) = ⊥
IsShown (Shown text) = Unit {0}
IsShown (Usage text) = ⊥

-- a refusal
abbrev pub IsUsage : CliAnswer → Type 0
IsUsage (Asked request) = ⊥
IsUsage (Shown text) = ⊥
IsUsage (Usage text) = Unit {0}

-- words that are taken and ask for a request are answered with it
abbrev pub AnswersRequest : List Text → Text → CliAnswer → Type 0
AnswersRequest words cwd given =
    (request : Request) → Takes words → request_in words cwd ≡ Some request → given ≡ Asked request

-- words that can be taken for nothing but a call for help or the version are answered with a text to show
abbrev pub AnswersHelp : List Text → CliAnswer → Type 0
AnswersHelp words given = may_show (word_faults words) ≡ true → may_refuse (word_faults words) ≡ false → IsShown given

-- words that can be taken for nothing but a mistake, and words that are taken and ask for nothing, are refused
abbrev pub AnswersMistake : List Text → Text → CliAnswer → Type 0
AnswersMistake words cwd given =
    may_show (word_faults words) ≡ false → (may_refuse (word_faults words) ≡ true) ⊎ (request_in words cwd ≡ None)
    → IsUsage given

-- the matches are those of words that the command line takes
pub record HasMatches (words : List Text) (matches : ArgMatches) : Type 0 where
  pub takes : Takes words
  pub rows : rows_of (found_of matches) ≡ matches_of cli words
  pub below : subcommand_rows_of matches ≡ subcommand_of cli words

-- the answer to an error of that kind: what is asked for is shown, and a mistake refused
abbrev pub IsErrorAnswer : ErrorKind → CliAnswer → Type 0
IsErrorAnswer kind (Asked request) = ⊥
IsErrorAnswer kind (Shown text) = is_display kind ≡ true
IsErrorAnswer kind (Usage text) = (is_display kind ≡ false) × (kind ≢ OutOfMemory)

-- the answer to matches: the request that they ask for, or a refusal where there is none
abbrev pub IsAsked : List Row → Option (Text × List Row) → Text → CliAnswer → Type 0
IsAsked rows below cwd (Asked request) = request_of_rows rows below cwd ≡ Ok request
IsAsked rows below cwd (Shown text) = ⊥
IsAsked rows below cwd (Usage text) = is_err (request_of_rows rows below cwd) ≡ true
