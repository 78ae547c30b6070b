-- What the call answers that finds a run's lists and texts.
use Rattle.std.specs.Prelude.{◌≡◌, ℕ, List, ◌++◌, Option, Some, Result, Ok, Err}
use Rattle.tree_core.specs.Call.{CallAnswer, Call}
use Rattle.tree_core.specs.texts.Cause.{Cause, no_memory}
use Rattle.spdx_terms.specs.catalog.Catalog.{CatalogLists}
use Rattle.spdx_terms.specs.declared.catalog.identifier.Match.{Match}
use Rattle.spdx_own_names.specs.Listed.{lists_in}
use Rattle.spdx_own_names.specs.declared.listing.FileCatalog.{FileCatalog}
use Rattle.run_found.specs.declared.error.Error.{Error}
use Rattle.run_found.specs.Error.{cause_of}
use Rattle.run_found.specs.Hearing.{MadeOn, TreeSeen, read_calls}
use Rattle.run_found.specs.declared.own_names.found.ListsFound.{ListsFound}
use Rattle.run_found.specs.declared.own_names.lists.ChosenCatalog.{ChosenCatalog}
use Rattle.run_found.specs.declared.own_names.texts.ChosenIdentifier.{ChosenIdentifier}
use Rattle.run_found.specs.own_names.Chosen.{kept_chosen, lists_chosen, texts_chosen}
use Rattle.run_found.specs.own_names.Given.{ListsAsked, ListsGiven, TextsGiven, lists_given, texts_given}
use Rattle.run_found.specs.own_names.Heard.{ListsHearing, catalog_by, given_heard, lists_calls, store_calls, texts_by}

-- want of memory may come in the place of any answer
abbrev pub AnswersBy : {X : Type 0} → Cause → Option (Result X Error) → Error → Type 0
AnswersBy no_memory heard error = Unit {0}
AnswersBy _ heard error = heard ≡ Some (Err error)

-- what is read is answered
abbrev pub AnswersHeard : {X : Type 0} → Option (Result X Error) → Result X Error → Type 0
AnswersHeard heard (Ok value) = heard ≡ Some (Ok value)
AnswersHeard heard (Err error) = AnswersBy (cause_of error) heard error

-- The calls of a hearing were made, and no other; what it comes to is answered.
pub record FindsLists (given : ListsGiven) (asked : ListsAsked) (tree : TreeSeen)
    (answer : Result ListsGiven Error) : Type 0 where
  pub hearing : ListsHearing
  pub begun : hearing.begun ≡ tree.count_before
  pub made : MadeOn tree (lists_calls given asked hearing)
  pub answers : AnswersHeard (given_heard given asked hearing) answer

-- ---- the catalogue alone, and the texts alone

-- by a read, which was made or given up before
pub record HasCatalog (given : CatalogLists) (path : Option (List ℕ)) (begun after : ℕ) (old new : List Call)
    (answer : Result CatalogLists Error) : Type 0 where
  pub read : Option CallAnswer
  pub made : new ≡ old ++ read_calls path read
  pub answers : AnswersHeard (catalog_by given path begun after read) answer

pub record HasTexts (given : TextsGiven) (path : Option (List ℕ)) (begun after : ℕ) (old new : List Call)
    (answer : Result TextsGiven Error) : Type 0 where
  pub listing : Option CallAnswer
  pub reads : List CallAnswer
  pub made : new ≡ old ++ store_calls path listing reads
  pub answers : AnswersHeard (texts_by given path begun after listing reads) answer

-- ---- answers, as the values of the code stand for them

abbrev pub listing_answer : Result FileCatalog Error → Result CatalogLists Error
listing_answer (Ok listing) = Ok (lists_in listing)
listing_answer (Err error) = Err error

abbrev pub lists_answer : {C : Type 0} → (C → CatalogLists) → Result (ChosenCatalog C) Error → Result CatalogLists Error
lists_answer lists (Ok chosen) = Ok (lists_chosen lists chosen)
lists_answer lists (Err error) = Err error

-- the texts of an identifier, by what is said of a text and what is kept under a name
abbrev pub chosen_given : {I : Type 0} → (I → List ℕ → Match) → (I → List ℕ → Option (List ℕ)) → ChosenIdentifier I
    → TextsGiven
chosen_given match_of text_of chosen = texts_given (texts_chosen match_of chosen) (kept_chosen text_of chosen)

abbrev pub texts_answer : {I : Type 0} → (I → List ℕ → Match) → (I → List ℕ → Option (List ℕ))
    → Result (ChosenIdentifier I) Error → Result TextsGiven Error
texts_answer match_of text_of (Ok chosen) = Ok (chosen_given match_of text_of chosen)
texts_answer match_of text_of (Err error) = Err error

abbrev pub found_answer : {C I : Type 0} → (C → CatalogLists) → (I → List ℕ → Match)
    → (I → List ℕ → Option (List ℕ)) → Result (ListsFound C I) Error → Result ListsGiven Error
found_answer lists match_of text_of (Ok found) =
    Ok (lists_given (lists_chosen lists found.catalog) (chosen_given match_of text_of found.identifier))
found_answer lists match_of text_of (Err error) = Err error
