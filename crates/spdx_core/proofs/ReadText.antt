-- Reading a text item by item: faults and reading go on behind what was taken.
use Rattle.std.proofs.Common.{◌≡◌, refl, ℕ, zero, suc, List, [], ◌∷◌, Option, length}
use Rattle.std.proofs.lemmas.Str.{IsCharBoundary-start}
use Rattle.std.specs.Str.{IsUtf8, IsCharBoundary}
use Rattle.deny_text.specs.declared.span.Span.{Span}
use Rattle.spdx_terms.specs.catalog.Catalog.{CatalogLists}
use Rattle.spdx_terms.specs.declared.mode.ParseMode.{ParseMode}
use Rattle.spdx_terms.specs.declared.error.ParseError.{ParseError}
use Rattle.spdx_terms.specs.declared.error.ParseReason.TheVariants.{Empty}
use Rattle.spdx_terms.specs.declared.item.WantedItem.{WantedItem}
use Rattle.spdx_terms.specs.declared.item.WantedItem.TheVariants.{Term as wants_term}
use Rattle.spdx_terms.specs.declared.item.Item.{Item}
use Rattle.spdx_terms.specs.Items.{items_of}
use Rattle.spdx_terms.specs.NextItem.{items_behind}
use Rattle.spdx_terms.specs.Faults.{fault, fault_from, fault_of, first_fault, end_fault, last_open}
use Rattle.spdx_core.specs.Machine.{Machine, no_machine, run}

-- what is wrong at the end of a text whose last item ends at a place: where there is none, the text is empty
abbrev end_behind : ℕ → ℕ → WantedItem → List Span → Option ParseError
end_behind zero len wanted opened = fault Empty 0 len
end_behind (suc place) len wanted opened = end_fault len wanted (last_open opened)

-- what is wrong behind a place
abbrev pub fault_behind : ℕ → ParseMode → ℕ → WantedItem → List Span → List Item → Option ParseError
fault_behind place mode len wanted opened [] = end_behind place len wanted opened
fault_behind place mode len wanted opened (item ∷ items) = fault_from mode len wanted opened (item ∷ items)

pub record ReadsOn (mode : ParseMode) (lists : CatalogLists) (text : List ℕ) (place : ℕ) (wanted : WantedItem) (opened : List Span) (m : Machine) : Type 0 where
  pub border : IsCharBoundary text place
  pub faults : first_fault mode lists text ≡ fault_behind place mode (length text) wanted opened (items_behind mode lists wanted place text)
  pub runs : run no_machine (items_of mode lists text) ≡ run m (items_behind mode lists wanted place text)

at_start : (mode : ParseMode) (len : ℕ) (items : List Item) → fault_of mode len items ≡ fault_behind 0 mode len wants_term [] items
at_start mode len [] = refl
at_start mode len (item ∷ items) = refl

pub reads_whole : (mode : ParseMode) (lists : CatalogLists) (text : List ℕ) → IsUtf8 text → ReadsOn mode lists text 0 wants_term [] no_machine
reads_whole mode lists text utf8 = record { border = IsCharBoundary-start text utf8; faults = at_start mode (length text) (items_of mode lists text); runs = refl }
