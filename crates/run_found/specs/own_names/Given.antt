-- What tells licences from names and from texts, and what a request asks for in its place.
use Rattle.std.specs.Prelude.{ℕ, List, Option}
use Rattle.spdx_terms.specs.catalog.Catalog.{CatalogLists}
use Rattle.spdx_terms.specs.catalog.Store.{match_of, text_of_store}
use Rattle.spdx_terms.specs.declared.catalog.identifier.Match.{Match}
use Rattle.spdx_terms.specs.declared.catalog.store.StoreText.{StoreText}

-- what an identifier says of a text, and the text that is kept under a name
pub record TextsGiven : Type 0 where
  pub match_of : List ℕ → Match
  pub text_of : List ℕ → Option (List ℕ)

abbrev pub texts_given : (List ℕ → Match) → (List ℕ → Option (List ℕ)) → TextsGiven
texts_given match_of text_of = record { match_of = match_of; text_of = text_of }

-- those of stored texts
abbrev pub store_given : List StoreText → TextsGiven
store_given texts = texts_given (match_of texts) (text_of_store texts)

-- a catalogue's lists, and licence texts
pub record ListsGiven : Type 0 where
  pub lists : CatalogLists
  pub texts : TextsGiven

abbrev pub lists_given : CatalogLists → TextsGiven → ListsGiven
lists_given lists texts = record { lists = lists; texts = texts }

-- the paths of a catalogue's file and of a folder of texts, each where a request names one
pub record ListsAsked : Type 0 where
  pub catalog : Option (List ℕ)
  pub store : Option (List ℕ)

abbrev pub lists_asked : Option (List ℕ) → Option (List ℕ) → ListsAsked
lists_asked catalog store = record { catalog = catalog; store = store }
