-- What holds of all bills.
use Rattle.std.specs.Prelude.{◌≡◌, ◌⊎◌, ℕ, List, Result, Ok, Err}
use Rattle.check_bill.specs.declared.bill.Bill.{Bill}
use Rattle.check_bill.specs.declared.error.BillError.{BillError}
use Rattle.check_bill.specs.declared.error.BillError.TheVariants.{Memory}
use Rattle.check_bill.specs.Answers.{AnswersRead}
use Rattle.check_bill.specs.Bills.{IsBill}
use Rattle.check_bill.specs.Lines.{lines_of}

-- what is answered to the lines of a bill is this bill, or that memory was refused
abbrev pub BillsReadBack : Type 0
BillsReadBack =
    (bill : Bill) (answer : Result Bill BillError) → IsBill bill → AnswersRead (lines_of bill) answer
    → (answer ≡ Ok bill) ⊎ (answer ≡ Err Memory)

-- what is read is a bill, whose lines are the bytes that were read
abbrev pub ReadIsWritten : Type 0
ReadIsWritten = (bytes : List ℕ) (bill : Bill) → AnswersRead bytes (Ok bill) → IsBill bill × (lines_of bill ≡ bytes)
