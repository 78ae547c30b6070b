-- What reading a bill answers.
use Rattle.std.specs.Prelude.{◌≡◌, ℕ, List, Result, Ok, Err}
use Rattle.check_bill.specs.declared.bill.Bill.{Bill}
use Rattle.check_bill.specs.declared.error.BillError.{BillError}
use Rattle.check_bill.specs.declared.error.BillError.TheVariants.{Syntax, Memory}
use Rattle.check_bill.specs.Bills.{IsBill}
use Rattle.check_bill.specs.Lines.{lines_of}

-- bytes are the lines of this, and it is a bill
pub record Spells (bytes : List ℕ) (bill : Bill) : Type 0 where
  pub is : IsBill bill
  pub spelled : bytes ≡ lines_of bill

-- the one bill whose lines the bytes are, or that they are those of none; want of memory is free
abbrev pub AnswersRead : List ℕ → Result Bill BillError → Type 0
AnswersRead bytes (Ok bill) = Spells bytes bill
AnswersRead bytes (Err Syntax) = (bill : Bill) → Spells bytes bill → ⊥
AnswersRead bytes (Err Memory) = Unit {0}
