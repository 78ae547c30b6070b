-- What a run for a bill answers and writes.
use Rattle.std.specs.Prelude.{◌≡◌, ◌↔◌, ◌⊎◌, ℕ, Bool, true, false, IsTrue, List, [], ◌∷◌, ◌++◌, codes}
use Rattle.std.specs.Prelude.{Option, Some, None, Result, Ok, Err}
use Rattle.tree_core.specs.Call.{CallAnswer}
use Rattle.tree_core.specs.Faults.{Gained, GainedPrefix}
use Rattle.tree_core.specs.Trace.{fault_behind, faults_after}
use Rattle.tree_core.specs.texts.Heard.{read_of, text_answered}
use Rattle.tree_core.specs.declared.texts.fault.ReadFault.{ReadFault}
use Rattle.graph_core.specs.Krate.{CrateRecord}
use Rattle.check_core.specs.declared.report.CrateReport.{CrateReport}
use Rattle.check_bill.specs.declared.bill.Bill.{Bill}
use Rattle.check_bill.specs.Answers.{Spells}
use Rattle.check_bill.specs.Bills.{IsSame}
use Rattle.check_bill.specs.Lines.{lines_of}
use Rattle.run_request.specs.declared.bill.BillArgs.{BillArgs}
use Rattle.run_found.specs.declared.error.Error.{Error}
use Rattle.run_found.specs.declared.error.Error.TheVariants.{Memory, BillText, BillRead, BillSyntax}
use Rattle.run_found.specs.declared.reads.CrateRead.{CrateRead}
use Rattle.run_found.specs.Hearing.{MadeOn, RequestHearing, TreeSeen, crates_heard}
use Rattle.run_found.specs.Written.{IsSilent, SinkSeen}
use Rattle.run_command.specs.Found.{calls_of, load_heard}
use Rattle.run_command.specs.Given.{CommandArguments}
use Rattle.run_command.specs.Settled.{HearsSo, WritesAll}
use Rattle.run_command.specs.Stops.{Stops}
use Rattle.run_command.specs.Written.{IsWriteFault}
use Rattle.run_check.specs.declared.report.Report.{Report}
use Rattle.run_check.specs.Reads.{reads_told}
use Rattle.run_check.specs.Report.{IsReport}
use Rattle.run_bill.specs.declared.billed.BilledCrates.{BilledCrates}
use Rattle.run_bill.specs.declared.billed.ReportedBill.{ReportedBill}
use Rattle.run_bill.specs.Bills.{IsUnfit, bill_of, first_unfit}

-- ---- the bill of what was read

abbrev pub reported_bill : BillArgs → List CrateRecord → List CrateReport → ReportedBill
reported_bill words crates reports = record { bill = bill_of words crates reports; reads = reads_told reports }

-- What was read asks for this report of a check; each name of the crates that are asked for fits; and this is their
-- bill by that report, and the reads that it lists.
pub record TellsBill (given : CommandArguments) (words : BillArgs) (hearing : RequestHearing)
    (made : ReportedBill) : Type 0 where
  pub report : Report
  pub is : IsReport given hearing report
  pub fits : first_unfit (crates_heard hearing) ≡ None
  pub made_is : made ≡ reported_bill words (crates_heard hearing) report.crates

-- What was read asks for a report of a check, and this is the id of the first of the crates that are asked for whose
-- name does not fit.
pub record TellsUnfit (given : CommandArguments) (hearing : RequestHearing) (id : List ℕ) : Type 0 where
  pub report : Report
  pub is : IsReport given hearing report
  pub unfit : IsUnfit (crates_heard hearing) id

-- the command was refused for that name
abbrev pub RefusesName : CommandArguments → TreeSeen → SinkSeen → Error → Type 0
RefusesName given tree err (BillText id) = HearsSo given tree err (λ hearing. TellsUnfit given hearing id)
RefusesName given tree err _ = ⊥

-- There is a bill, or a name does not fit, or the command was refused before it did its own.
abbrev pub FindsBill : CommandArguments → BillArgs → TreeSeen → SinkSeen → Result ReportedBill Error → Type 0
FindsBill given words tree err (Ok made) = HearsSo given tree err (λ hearing. TellsBill given words hearing made)
FindsBill given words tree err (Err error) = Stops given tree err error ⊎ RefusesName given tree err error

-- ---- a bill that is written

abbrev pub written_of : ReportedBill → BilledCrates
written_of made = record { same = true; reads = made.reads }

-- a prefix of the bill's lines was written, behind which a write was refused
pub record CutsBill (given : CommandArguments) (words : BillArgs) (tree : TreeSeen) (err out : SinkSeen)
    (error : Error) : Type 0 where
  pub made : ReportedBill
  pub hears : HearsSo given tree err (λ hearing. TellsBill given words hearing made)
  pub refused : IsWriteFault out.before out.after error
  pub front : GainedPrefix out.old out.new (lines_of made.bill)

-- The bill's lines are written. A refusal leaves nothing on `out`, or it is that of the write.
abbrev pub WritesBill : CommandArguments → BillArgs → TreeSeen → SinkSeen → SinkSeen → Result BilledCrates Error
    → Type 0
WritesBill given words tree err out (Ok billed) =
    WritesAll given tree err out (λ made hearing. TellsBill given words hearing made) (λ made. lines_of made.bill)
    (λ made. billed ≡ written_of made)
WritesBill given words tree err out (Err error) =
    (FindsBill given words tree err (Err error) × IsSilent out) ⊎ CutsBill given words tree err out error

-- ---- a bill that is compared with a file, by the answer to its read, from a count of faults on

-- the file is the lines of a bill, and it is told whether that is the same but for its moment
pub record TellsSame (billed : BilledCrates) (made : ReportedBill) (count : ℕ) (answer : CallAnswer) : Type 0 where
  pub text : List ℕ
  pub hears : text_answered count (fault_behind count answer) answer ≡ Some (Ok text)
  pub other : Bill
  pub spells : Spells text other
  pub same : IsTrue billed.same ↔ IsSame other made.bill
  pub reads : billed.reads ≡ made.reads

-- it is a text, and the lines of no bill
pub record TellsNoBill (made : ReportedBill) (count : ℕ) (answer : CallAnswer) : Type 0 where
  pub text : List ℕ
  pub hears : text_answered count (fault_behind count answer) answer ≡ Some (Ok text)
  pub not_spelled : (bill : Bill) → Spells text bill → ⊥

-- it is no text, or was not read
pub record TellsUnread (fault : ReadFault) (reads : List CrateRead) (made : ReportedBill) (count : ℕ)
    (answer : CallAnswer) : Type 0 where
  pub hears : text_answered count (fault_behind count answer) answer ≡ Some (Err fault)
  pub reads_are : reads ≡ made.reads

-- so of an answer and of each refusal; nothing is told where memory was wanting
abbrev pub Tells : Result BilledCrates Error → ReportedBill → ℕ → CallAnswer → Type 0
Tells (Ok billed) = TellsSame billed
Tells (Err Memory) = λ made count answer. Unit {0}
Tells (Err (BillRead fault reads)) = TellsUnread fault reads
Tells (Err BillSyntax) = TellsNoBill
Tells (Err _) = λ made count answer. ⊥

-- A bill was made, and then the file at a path was read; the calls of that were made, and no other; all that is printed
-- of the load was written; and this is so of the bill, the count of faults before the read and its answer.
pub record ComparesBy (given : CommandArguments) (words : BillArgs) (path : List ℕ) (tree : TreeSeen) (err : SinkSeen)
    (IsSo : ReportedBill → ℕ → CallAnswer → Type 0) : Type 0 where
  pub hearing : RequestHearing
  pub made : ReportedBill
  pub answer : CallAnswer
  pub begun : hearing.begun ≡ tree.count_before
  pub calls : MadeOn tree (calls_of given hearing ++ read_of path answer ∷ [])
  pub tells : TellsBill given words hearing made
  pub written : Gained err.old err.new (load_heard given hearing)
  pub is_so : IsSo made (faults_after tree.count_before (calls_of given hearing)) answer

-- Before the answer is written: it is about the bill and the file. So is a refusal, or there is no bill.
abbrev pub ComparesFirst : CommandArguments → BillArgs → List ℕ → TreeSeen → SinkSeen → Result BilledCrates Error
    → Type 0
ComparesFirst given words path tree err (Ok billed) = ComparesBy given words path tree err (Tells (Ok billed))
ComparesFirst given words path tree err (Err error) =
    FindsBill given words tree err (Err error) ⊎ ComparesBy given words path tree err (Tells (Err error))

-- whether nothing but the moment has changed
abbrev pub answer_text : Bool → List ℕ
answer_text true = codes "bill unchanged\n"
answer_text false = codes "bill changed\n"

-- the answer was told, and a prefix of it written, behind which a write was refused
pub record CutsAnswer (given : CommandArguments) (words : BillArgs) (path : List ℕ) (tree : TreeSeen)
    (err out : SinkSeen) (error : Error) : Type 0 where
  pub billed : BilledCrates
  pub compares : ComparesBy given words path tree err (Tells (Ok billed))
  pub refused : IsWriteFault out.before out.after error
  pub front : GainedPrefix out.old out.new (answer_text billed.same)

-- The answer is written. A refusal leaves nothing on `out`, or it is that of the write.
abbrev pub Compares : CommandArguments → BillArgs → List ℕ → TreeSeen → SinkSeen → SinkSeen
    → Result BilledCrates Error → Type 0
Compares given words path tree err out (Ok billed) =
    ComparesBy given words path tree err (Tells (Ok billed)) × Gained out.old out.new (answer_text billed.same)
Compares given words path tree err out (Err error) =
    (ComparesFirst given words path tree err (Err error) × IsSilent out)
    ⊎ CutsAnswer given words path tree err out error

-- ---- the command

-- the bill is written, or compared with the file of the words
abbrev pub BillsBy : Option (List ℕ) → CommandArguments → BillArgs → TreeSeen → SinkSeen → SinkSeen
    → Result BilledCrates Error → Type 0
BillsBy None given words = WritesBill given words
BillsBy (Some path) given words = Compares given words path

abbrev pub Bills : CommandArguments → BillArgs → TreeSeen → SinkSeen → SinkSeen → Result BilledCrates Error → Type 0
Bills given words tree err out result = BillsBy words.against given words tree err out result
