-- The catalogue and the licence texts of a run: those that were handed in, or its own.
use Rattle.std.specs.Prelude.{◌≤◌, ℕ, List, Option}
use Rattle.spdx_terms.specs.catalog.Catalog.{CatalogLists, IsCatalog}
use Rattle.spdx_terms.specs.catalog.Store.{match_of, score_within, stored_for, text_of_store}
use Rattle.spdx_terms.specs.declared.catalog.identifier.Match.{Match}
use Rattle.spdx_own_names.specs.Listed.{lists_in}
use Rattle.run_found.specs.declared.own_names.lists.ChosenCatalog.{ChosenCatalog}
use Rattle.run_found.specs.declared.own_names.lists.ChosenCatalog.TheVariants as lists
use Rattle.run_found.specs.declared.own_names.texts.ChosenIdentifier.{ChosenIdentifier}
use Rattle.run_found.specs.declared.own_names.texts.ChosenIdentifier.TheVariants as texts

-- what a catalogue lists
abbrev pub lists_chosen : {C : Type 0} → (C → CatalogLists) → ChosenCatalog C → CatalogLists
lists_chosen given (lists.Given catalog) = given catalog.now
lists_chosen given (lists.Own listing) = lists_in listing

pub lists_are_catalog : {C : Type 0} (given : C → CatalogLists) → ((catalog : C) → IsCatalog (given catalog))
    → (chosen : ChosenCatalog C) → IsCatalog (lists_chosen given chosen)
lists_are_catalog given lawful (lists.Given catalog) = lawful catalog.now
lists_are_catalog given lawful (lists.Own listing) = listing.is_catalog

-- what is said of a text
abbrev pub texts_chosen : {I : Type 0} → (I → List ℕ → Match) → ChosenIdentifier I → List ℕ → Match
texts_chosen given (texts.Given identifier) = given identifier.now
texts_chosen given (texts.Own store) = match_of store

-- the text that is kept under a name
abbrev pub kept_chosen : {I : Type 0} → (I → List ℕ → Option (List ℕ)) → ChosenIdentifier I → List ℕ → Option (List ℕ)
kept_chosen given (texts.Given identifier) = given identifier.now
kept_chosen given (texts.Own store) = text_of_store store

pub texts_within : {I : Type 0} (given : I → List ℕ → Match)
    → ((identifier : I) (text : List ℕ) → (given identifier text).score ≤ 100)
    → (chosen : ChosenIdentifier I) (text : List ℕ) → (texts_chosen given chosen text).score ≤ 100
texts_within given within (texts.Given identifier) text = within identifier.now text
texts_within given within (texts.Own store) text = score_within (stored_for store text)
