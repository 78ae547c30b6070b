-- The answers of the command line to words.
use Rattle.std.proofs.Common.{◌≡◌, ◌⊎◌, ◌∙◌, inl, inr, Bool, true, false, not, ◌||◌, true≢false, List, [], ◌∷◌, refl, sym, ap, subst, Option, None, Some, Result, Ok, Err}
use Rattle.std.specs.Prelude.{IfOk, IfErr}
use Rattle.std.specs.Result.{result_ok, is_err}
use Rattle.std.specs.List.{list_any}
use Rattle.clap.specs.Words.{Text, Row, App, Kinds, FailsBy, HasKind, HasMatchesOf, IsAmong, fault_of, found_of, is_simple, is_simple_and_free, kind_of, matches_of, rows_of, subcommand_of, subcommand_rows_of}
use Rattle.clap.specs.declared.error.Error.{Error}
use Rattle.clap.specs.declared.error.kind.ErrorKind.{ErrorKind}
use Rattle.clap.specs.declared.parser.matches.ArgMatches.{ArgMatches}
use Rattle.clap.proofs.OnLiterals.{clap_on_literals}
use Rattle.run_request.specs.declared.request.Request.{Request}
use Rattle.run_request.specs.declared.read.CliAnswer.{CliAnswer}
use Rattle.run_request.specs.declared.read.CliAnswer.TheVariants.{Asked, Shown, Usage}
use Rattle.run_request.specs.Cli.{cli}
use Rattle.run_request.specs.Request.{request_in}
use Rattle.run_request.specs.Given.{AnswersHelp, AnswersMistake, AnswersRequest, HasMatches, IsAsked, IsGivenFor, IsShown, IsErrorAnswer, IsUsage, is_display, may_refuse, may_show}

-- the command line is one of which `clap` states the matches
pub cli_is_simple : is_simple cli ≡ true
unfolding clap_on_literals
cli_is_simple = refl

-- and also each kind of fault
pub cli_is_free : is_simple_and_free cli ≡ true
unfolding clap_on_literals
cli_is_free = refl

-- matches that `clap` gives are those of words that are taken
pub taken : (app : App) (words : List Text) (matches : ArgMatches) → app ≡ cli
    → (is_simple_and_free app ≡ true → fault_of app words ≡ []) → HasMatchesOf app words matches → HasMatches words matches
taken app words matches is fails has =
    let P : App → Type 0 = λ a. (is_simple_and_free a ≡ true → fault_of a words ≡ []) in
    let Q : App → Type 0 = λ a. HasMatchesOf a words matches in
    let none = subst P is fails cli_is_free in
    let both = subst Q is has cli_is_simple in
    record { takes = none; rows = both.0; below = both.1 }

-- an error of `clap` has one of the kinds that the words allow
pub failed : (app : App) (words : List Text) (error : Error) → app ≡ cli
    → (is_simple_and_free app ≡ true → HasKind (fault_of app words) error) → HasKind (fault_of cli words) error
failed app words error is fails =
    let P : App → Type 0 = λ a. (is_simple_and_free a ≡ true → HasKind (fault_of a words) error) in
    subst P is fails cli_is_free

-- a kind that is among others is found there
among : (p : ErrorKind → Bool) (kind : ErrorKind) (kinds : Kinds) → IsAmong kind kinds → p kind ≡ true → list_any p kinds ≡ true
among p kind [] is holds = absurd is
among p kind (first ∷ kinds) (inl same) holds = rw (sym (ap p same) ∙ holds) refl
among p kind (first ∷ kinds) (inr later) holds = either (p first) (among p kind kinds later holds)
  where
    either : (b : Bool) → list_any p kinds ≡ true → (b || list_any p kinds) ≡ true
    either true found = refl
    either false found = found

-- what is said of an error is what the words allow
pub told_is_given : (words : List Text) (cwd : Text) (error : Error) (given : CliAnswer) → HasKind (fault_of cli words) error → IsErrorAnswer (kind_of error) given → IsGivenFor words cwd given
told_is_given words cwd error (Asked request) has told = absurd told
told_is_given words cwd error (Shown text) (inl memory) told =
    let no : false ≡ true = sym (ap is_display memory) ∙ told in absurd (true≢false (sym no))
told_is_given words cwd error (Shown text) (inr kind) told = among is_display (kind_of error) (fault_of cli words) kind told
told_is_given words cwd error (Usage text) (inl memory) told = absurd (told.1 memory)
told_is_given words cwd error (Usage text) (inr kind) told =
    inl (among (λ k. not (is_display k)) (kind_of error) (fault_of cli words) kind (ap not told.0))

no_value : {T E : Type 0} (r : Result T E) → is_err r ≡ true → result_ok r ≡ None
no_value (Ok value) is = absurd (true≢false (sym is))
no_value (Err error) is = refl

-- what matches ask for is what the words ask for
pub asked_is_given : (words : List Text) (cwd : Text) (matches : ArgMatches) (given : CliAnswer) → HasMatches words matches
    → IsAsked (rows_of (found_of matches)) (subcommand_rows_of matches) cwd given → IsGivenFor words cwd given
asked_is_given words cwd matches given has asked =
    let P : List Row → Option (Text × List Row) → Type 0 = λ rows below. IsAsked rows below cwd given in
    finish given (subst (λ (below : Option (Text × List Row)). P (matches_of cli words) below) has.below
    (subst (λ (rows : List Row). P rows (subcommand_rows_of matches)) has.rows asked))
  where
    finish : (given : CliAnswer) → IsAsked (matches_of cli words) (subcommand_of cli words) cwd given → IsGivenFor words cwd given
    finish (Asked request) is = (has.takes, ap result_ok is)
    finish (Shown text) is = absurd is
    finish (Usage text) is = inr (has.takes, no_value _ is)

-- the same of the two outcomes of a parse
pub ok_matches : (X Y : ArgMatches → Type 0) (app : App) (words : List Text) (r : Result ArgMatches Error) → app ≡ cli
    → IfOk r (λ matches. X matches × Y matches × HasMatchesOf app words matches) → (is_simple_and_free app ≡ true → FailsBy (fault_of app words) r) → IfOk r (HasMatches words)
ok_matches X Y app words (Ok matches) is has fails = taken app words matches is fails has.2
ok_matches X Y app words (Err error) is has fails = tt

pub err_kinds : (app : App) (words : List Text) (r : Result ArgMatches Error) → app ≡ cli
    → (is_simple_and_free app ≡ true → FailsBy (fault_of app words) r) → IfErr r (HasKind (fault_of cli words))
err_kinds app words (Ok matches) is fails = tt
err_kinds app words (Err error) is fails = failed app words error is fails

-- words that are taken and ask for a request are answered with it
pub asked_when : (words : List Text) (cwd : Text) (request : Request) (given : CliAnswer) → fault_of cli words ≡ [] → request_in words cwd ≡ Some request → IsGivenFor words cwd given → given ≡ Asked request
asked_when words cwd request (Asked other) takes asks is = ap Asked (some (sym is.1 ∙ asks))
  where
    some : {one two : Request} → Some one ≡ Some two → one ≡ two
    some e = cc
asked_when words cwd request (Shown text) takes asks is =
    let no : false ≡ true = sym (ap may_show takes) ∙ is in absurd (true≢false (sym no))
asked_when words cwd request (Usage text) takes asks (inl mistake) =
    let no : false ≡ true = sym (ap may_refuse takes) ∙ mistake in absurd (true≢false (sym no))
asked_when words cwd request (Usage text) takes asks (inr none) =
    let no : ◌≡◌ {A = Option Request} None (Some request) = sym none.1 ∙ asks in absurd (cc)

-- words that can only be taken for a call for help or the version are answered with a text to show
pub shown_when : (words : List Text) (cwd : Text) (given : CliAnswer) → may_show (fault_of cli words) ≡ true → may_refuse (fault_of cli words) ≡ false → IsGivenFor words cwd given → IsShown given
shown_when words cwd (Asked request) shows refuses is =
    let no : false ≡ true = sym (ap may_show is.0) ∙ shows in absurd (true≢false (sym no))
shown_when words cwd (Shown text) shows refuses is = tt
shown_when words cwd (Usage text) shows refuses (inl mistake) = absurd (true≢false (sym mistake ∙ refuses))
shown_when words cwd (Usage text) shows refuses (inr none) =
    let no : false ≡ true = sym (ap may_show none.0) ∙ shows in absurd (true≢false (sym no))

-- words that can only be taken for a mistake, and words that are taken and ask for nothing, are refused
pub refused_when : (words : List Text) (cwd : Text) (given : CliAnswer) → may_show (fault_of cli words) ≡ false → ((may_refuse (fault_of cli words) ≡ true) ⊎ (request_in words cwd ≡ None)) → IsGivenFor words cwd given → IsUsage given
refused_when words cwd (Asked request) shows (inl refuses) is =
    let no : false ≡ true = sym (ap may_refuse is.0) ∙ refuses in absurd (true≢false (sym no))
refused_when words cwd (Asked request) shows (inr none) is =
    let no : ◌≡◌ {A = Option Request} None (Some request) = sym none ∙ is.1 in absurd (cc)
refused_when words cwd (Shown text) shows why is = absurd (true≢false (sym is ∙ shows))
refused_when words cwd (Usage text) shows why is = tt

-- the same of an outcome that may be want of memory
pub request_clause : {E : Type 0} (words : List Text) (cwd : Text) (r : Result CliAnswer E) → IfOk r (IsGivenFor words cwd) → IfOk r (AnswersRequest words cwd)
request_clause words cwd (Ok given) is = λ request takes asks. asked_when words cwd request given takes asks is
request_clause words cwd (Err error) is = tt

pub help_clause : {E : Type 0} (words : List Text) (cwd : Text) (r : Result CliAnswer E) → IfOk r (IsGivenFor words cwd) → IfOk r (AnswersHelp words)
help_clause words cwd (Ok given) is = λ shows refuses. shown_when words cwd given shows refuses is
help_clause words cwd (Err error) is = tt

pub mistake_clause : {E : Type 0} (words : List Text) (cwd : Text) (r : Result CliAnswer E) → IfOk r (IsGivenFor words cwd) → IfOk r (AnswersMistake words cwd)
mistake_clause words cwd (Ok given) is = λ shows why. refused_when words cwd given shows why is
mistake_clause words cwd (Err error) is = tt

pub asked_clause : {E : Type 0} (words : List Text) (cwd : Text) (matches : ArgMatches) (r : Result CliAnswer E) → HasMatches words matches
    → IfOk r (IsAsked (rows_of (found_of matches)) (subcommand_rows_of matches) cwd) → IfOk r (IsGivenFor words cwd)
asked_clause words cwd matches (Ok given) has is = asked_is_given words cwd matches given has is
asked_clause words cwd matches (Err error) has is = tt

pub told_clause : {E : Type 0} (words : List Text) (cwd : Text) (error : Error) (r : Result CliAnswer E) → HasKind (fault_of cli words) error
    → IfOk r (IsErrorAnswer (kind_of error)) → IfOk r (IsGivenFor words cwd)
told_clause words cwd error (Ok given) has is = told_is_given words cwd error given has is
told_clause words cwd error (Err refused) has is = tt
