-- Which calls were made, from what each step tells of its own.
use Rattle.std.proofs.Common.{◌≡◌, ◌∙◌, ap, ℕ, List, [], ◌∷◌, ◌++◌, None, Result, Ok, Err, IfOk, OnErr, Bool, true, false, refl}
use Rattle.tree_core.specs.Call as call
use Rattle.tree_core.specs.Call.{Call, CallAnswer}
use Rattle.tree_core.specs.texts.Heard.{IsTextRead, read_of}
use Rattle.tree_core.specs.declared.texts.fault.ReadFault.{ReadFault}
use Rattle.tree_core.specs.declared.texts.search.SearchError.{SearchError}
use Rattle.run_context.specs.Paths.{ConfigPathUntil, IsConfigPath}
use Rattle.run_request.specs.declared.context.KrateContext.{KrateContext}
use Rattle.refusal_help.specs.Again.{AsksAgain, AsksForText, AsksWhere, file_there, given_up, read, searched}

-- a read behind the look
asks_read : (path : List ℕ) (old mid new : List Call) (answer : CallAnswer) → mid ≡ old ++ file_there path ∷ [] → new ≡ mid ++ read_of path answer ∷ [] → AsksForText path old new
asks_read path old mid new answer there made = read answer (made ∙ ap (λ calls. calls ++ read_of path answer ∷ []) there)

-- whatever it is answered
pub asks_by : {E : Type 0} (path : List ℕ) (old mid new : List Call) (before after : ℕ) (result : Result (Result (List ℕ) ReadFault) E) → mid ≡ old ++ file_there path ∷ []
    → IfOk result (IsTextRead before after mid new path) → OnErr result (new ≡ mid ++ read_of path call.no_memory ∷ []) → AsksForText path old new
asks_by {E} path old mid new before after (Ok heard) there told none = asks_read path old mid new told.answer there told.made
asks_by {E} path old mid new before after (Err error) there told none = asks_read path old mid new call.no_memory there none

-- behind a search that found nothing, or was given up, nothing is asked
nothing_behind : (with_text : Bool) (calls : List Call) → AsksWhere with_text None calls calls
nothing_behind true calls = refl
nothing_behind false calls = refl

pub asks_none : (context : KrateContext) (with_text : Bool) (old new : List Call) → IsConfigPath context old new None → AsksAgain context with_text old new
asks_none context with_text old new found = record { between = new; found = None; search = searched found; behind = nothing_behind with_text new }

pub asks_until : (context : KrateContext) (with_text : Bool) (old new : List Call) (error : SearchError) → ConfigPathUntil context old new error → AsksAgain context with_text old new
asks_until context with_text old new error until = record { between = new; found = None; search = given_up error until refl; behind = nothing_behind with_text new }
