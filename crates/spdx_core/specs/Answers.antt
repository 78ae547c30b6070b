-- What the private calls of the reader of expressions answer.
use Rattle.std.specs.Prelude.{◌≡◌, ℕ, List, Some, None, Result, Ok, Err}
use Rattle.spdx_terms.specs.catalog.Catalog.{CatalogLists}
use Rattle.spdx_terms.specs.declared.mode.ParseMode.{ParseMode}
use Rattle.spdx_terms.specs.declared.error.ExprError.{ExprError}
use Rattle.spdx_terms.specs.declared.error.ExprError.TheVariants.{Parse, Memory}
use Rattle.spdx_terms.specs.declared.item.Item.{Item}
use Rattle.spdx_terms.specs.Items.{wanted_after, items_of}
use Rattle.spdx_terms.specs.Faults.{item_fault, first_fault, has_open, opened_after}
use Rattle.spdx_core.specs.declared.reader.Reader.{Reader}
use Rattle.spdx_core.specs.declared.read.Progress.{Progress}
use Rattle.spdx_core.specs.Machine.{machine_of, no_machine, machine_after, run}

-- an item without a fault is taken
pub record TakesItem (mode : ParseMode) (old : Progress) (item : Item) (new : Progress) : Type 0 where
  pub fine : item_fault mode old.wanted (has_open old.opened) item.what item.span ≡ None
  pub wanted : new.wanted ≡ wanted_after old.wanted item.what
  pub opened : new.opened ≡ opened_after old.opened item.what item.span
  pub machine : machine_of new.reader ≡ machine_after (machine_of old.reader) item.what item.span

abbrev pub StepAnswers : ParseMode → Progress → Item → Progress → Result (Unit {0}) ExprError → Type 0
StepAnswers mode old item new (Ok done) = TakesItem mode old item new
StepAnswers mode old item new (Err (Parse fault)) =
    item_fault mode old.wanted (has_open old.opened) item.what item.span ≡ Some fault
StepAnswers mode old item new (Err Memory) = Unit {0}

-- the items of a text without a fault are all taken
pub record AllTaken (mode : ParseMode) (lists : CatalogLists) (text : List ℕ) (reader : Reader) : Type 0 where
  pub fine : first_fault mode lists text ≡ None
  pub machine : machine_of reader ≡ run no_machine (items_of mode lists text)

abbrev pub TextAnswer : ParseMode → CatalogLists → List ℕ → Result Reader ExprError → Type 0
TextAnswer mode lists text (Ok reader) = AllTaken mode lists text reader
TextAnswer mode lists text (Err (Parse fault)) = first_fault mode lists text ≡ Some fault
TextAnswer mode lists text (Err Memory) = Unit {0}
