-- What is read of the policy once more, behind a run that refused it.
use Rattle.std.specs.Prelude.{◌≡◌, ℕ, Bool, true, false, List, [], ◌∷◌, ◌++◌, Option, Some, None, Result, Ok}
use Rattle.std.specs.Option.{ForSome}
use Rattle.tree_core.specs.Call as call
use Rattle.tree_core.specs.Call.{Call, CallAnswer}
use Rattle.tree_core.specs.Trace.{file_call}
use Rattle.tree_core.specs.declared.tree.TreeError.{TreeError}
use Rattle.tree_core.specs.texts.Heard.{IsTextRead, read_of}
use Rattle.tree_core.specs.declared.texts.search.SearchError.{SearchError}
use Rattle.run_context.specs.Paths.{ConfigPathUntil, IsConfigPath}
use Rattle.run_found.specs.declared.error.Error.{Error}
use Rattle.run_found.specs.declared.error.Error.TheVariants.{ConfigRead, ConfigSyntax}
use Rattle.run_request.specs.declared.context.KrateContext.{KrateContext}
use Rattle.refusal_help.specs.declared.again.Again.{Again}

-- a call with the answer that a regular file is at a path
abbrev pub file_there : List ℕ → Call
file_there path = record { asked = call.is_file; path = path; answer = call.told true }

-- A text is read only of a regular file: it was asked whether one is at the path, and then that was read.
pub record IsReadAgain (old new : List Call) (path text : List ℕ) : Type 0 where
  pub begun : ℕ
  pub after : ℕ
  pub read : IsTextRead begun after (old ++ file_there path ∷ []) new path (Ok text)

-- The search for the policy was made once more, and found this path; and where there is a text it was read behind that.
pub record IsHeardAgain (context : KrateContext) (old new : List Call) (path : List ℕ)
    (text : Option (List ℕ)) : Type 0 where
  pub looked : List Call
  pub path_is : IsConfigPath context old looked (Some path)
  pub text_is : ForSome text (IsReadAgain looked new path)

-- what is known again is what was read
abbrev pub IsAgain : KrateContext → List Call → List Call → Again → Type 0
IsAgain context old new again = ForSome again.policy (λ path. IsHeardAgain context old new path again.text)

-- ---- which calls are made

-- the search for the policy was made once more, and found this; or it was given up
pub data SearchesAgain (context : KrateContext) (old new : List Call) (found : Option (List ℕ)) : Type 0 where
  searched : IsConfigPath context old new found → SearchesAgain context old new found
  given_up : (error : SearchError) → ConfigPathUntil context old new error → found ≡ None
      → SearchesAgain context old new found

-- it was asked whether a regular file is at a path; and where one does it may have been read
pub data AsksForText (path : List ℕ) (old new : List Call) : Type 0 where
  looked : (answer : Result Bool TreeError) → new ≡ old ++ file_call path answer ∷ [] → AsksForText path old new
  read : (answer : CallAnswer) → new ≡ (old ++ file_there path ∷ []) ++ read_of path answer ∷ []
      → AsksForText path old new

-- a text is asked for where it is wanted and a path was found
abbrev pub AsksWhere : Bool → Option (List ℕ) → List Call → List Call → Type 0
AsksWhere true (Some path) old new = AsksForText path old new
AsksWhere true None old new = new ≡ old
AsksWhere false found old new = new ≡ old

-- the search, and behind it what is asked of its path
pub record AsksAgain (context : KrateContext) (with_text : Bool) (old new : List Call) : Type 0 where
  pub between : List Call
  pub found : Option (List ℕ)
  pub search : SearchesAgain context old between found
  pub behind : AsksWhere with_text found between new

-- nothing is asked but behind a policy that was not read, or whose text stands for no value: of the first no text
abbrev pub IsAskedWhereDue : KrateContext → Error → List Call → List Call → Type 0
IsAskedWhereDue context (ConfigRead fault) old new = AsksAgain context false old new
IsAskedWhereDue context (ConfigSyntax fault) old new = AsksAgain context true old new
IsAskedWhereDue context _ old new = new ≡ old
