-- Reading the items of a text one by one.
use Rattle.std.specs.Prelude.{◌≡◌, ◌<◌, ℕ, List, [], ◌∷◌, Option, Some, None, drop}
use Rattle.std.specs.Str.{IsCharBoundary}
use Rattle.spdx_terms.specs.catalog.Catalog.{CatalogLists}
use Rattle.spdx_terms.specs.declared.mode.ParseMode.{ParseMode}
use Rattle.spdx_terms.specs.declared.item.WantedItem.{WantedItem}
use Rattle.spdx_terms.specs.declared.item.Item.{Item}
use Rattle.spdx_terms.specs.Items.{items_from, wanted_after}

-- the items of a text from a place on, where nothing behind the place is used
abbrev pub items_behind : ParseMode → CatalogLists → WantedItem → ℕ → List ℕ → List Item
items_behind mode lists wanted place text = items_from mode lists wanted place place (drop place text)

-- an item is the first one from a place on, and the others are behind it
pub record StandsNext (mode : ParseMode) (lists : CatalogLists) (wanted : WantedItem) (place : ℕ) (text : List ℕ)
    (item : Item) : Type 0 where
  pub later : place < item.span.end
  pub border : IsCharBoundary text item.span.end
  pub items : items_behind mode lists wanted place text
      ≡ item ∷ items_behind mode lists (wanted_after wanted item.what) item.span.end text

-- the first item from a place on, where there is one
abbrev pub IsNext : ParseMode → CatalogLists → WantedItem → ℕ → List ℕ → Option Item → Type 0
IsNext mode lists wanted place text None = items_behind mode lists wanted place text ≡ []
IsNext mode lists wanted place text (Some item) = StandsNext mode lists wanted place text item
