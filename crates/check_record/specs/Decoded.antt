-- What reading a file answers.
use Rattle.std.specs.Prelude.{◌≡◌, ℕ, List, Result, Ok, Err}
use Rattle.check_record.specs.declared.error.RecordError.{RecordError}
use Rattle.check_record.specs.declared.error.RecordError.TheVariants.{Syntax, Memory}
use Rattle.check_record.specs.declared.items.RecordItem.{RecordItem}
use Rattle.check_record.specs.Items.{IsRecord}
use Rattle.check_record.specs.Spelling.{spelled_of}

-- bytes are the spelling of these items, which are a record
pub record Spells (bytes : List ℕ) (items : List RecordItem) : Type 0 where
  pub is : IsRecord items
  pub spelled : bytes ≡ spelled_of items

-- the one record that the bytes spell, or that they spell none; want of memory is free
abbrev pub AnswersDecode : List ℕ → Result (List RecordItem) RecordError → Type 0
AnswersDecode bytes (Ok items) = Spells bytes items
AnswersDecode bytes (Err Syntax) = (items : List RecordItem) → Spells bytes items → ⊥
AnswersDecode bytes (Err Memory) = Unit {0}
