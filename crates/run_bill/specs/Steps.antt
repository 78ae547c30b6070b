-- What the steps of a run for a bill answer. Only the contracts of private calls cite it.
use Rattle.std.specs.Prelude.{◌≡◌, ◌⊎◌, ℕ, List, [], ◌∷◌, None, Some, Result, Ok, Err}
use Rattle.tree_core.specs.Call.{CallAnswer}
use Rattle.tree_core.specs.Faults.{Gained, GainedPrefix}
use Rattle.tree_core.specs.Trace.{fault_behind}
use Rattle.tree_core.specs.texts.Heard.{read_of, text_answered}
use Rattle.tree_core.specs.declared.texts.fault.ReadFault.{ReadFault}
use Rattle.graph_core.specs.Krate.{CrateRecord}
use Rattle.check_core.specs.declared.report.CrateReport.{CrateReport}
use Rattle.check_bill.specs.Lines.{lines_of}
use Rattle.run_request.specs.declared.bill.BillArgs.{BillArgs}
use Rattle.run_found.specs.declared.error.Error.{Error}
use Rattle.run_found.specs.declared.error.Error.TheVariants.{Memory, BillText}
use Rattle.run_found.specs.Hearing.{MadeOn, TreeSeen}
use Rattle.run_found.specs.Written.{IsSilent, SinkSeen}
use Rattle.run_command.specs.Written.{IsWriteFault}
use Rattle.run_bill.specs.declared.billed.BilledCrates.{BilledCrates}
use Rattle.run_bill.specs.declared.billed.ReportedBill.{ReportedBill}
use Rattle.run_bill.specs.Bills.{IsUnfit, first_unfit}
use Rattle.run_bill.specs.Billed.{Tells, reported_bill, written_of}

-- the bill of crates with the reads of each, where each name fits
abbrev pub IsReportedBill : BillArgs → List CrateRecord → List CrateReport → Result ReportedBill Error → Type 0
IsReportedBill words crates reports (Ok made) =
    (first_unfit crates ≡ None) × (made ≡ reported_bill words crates reports)
IsReportedBill words crates reports (Err Memory) = Unit {0}
IsReportedBill words crates reports (Err (BillText id)) = IsUnfit crates id
IsReportedBill words crates reports (Err _) = ⊥

-- ---- a bill that is written

-- its lines were written
pub record PutsAll (made : ReportedBill) (out : SinkSeen) (billed : BilledCrates) : Type 0 where
  pub lines : Gained out.old out.new (lines_of made.bill)
  pub billed_is : billed ≡ written_of made

-- a prefix of them was, behind which a write was refused
pub record CutsLines (made : ReportedBill) (out : SinkSeen) (error : Error) : Type 0 where
  pub refused : IsWriteFault out.before out.after error
  pub front : GainedPrefix out.old out.new (lines_of made.bill)

-- or memory was wanting before
abbrev pub Puts : ReportedBill → SinkSeen → Result BilledCrates Error → Type 0
Puts made out (Ok billed) = PutsAll made out billed
Puts made out (Err error) = ((error ≡ Memory) × IsSilent out) ⊎ CutsLines made out error

-- ---- a bill that is compared with a file

-- it is told so, whatever answer lets this be read of the file
abbrev pub TellsHeard : ReportedBill → Result (List ℕ) ReadFault → Result BilledCrates Error → Type 0
TellsHeard made heard result =
    (count : ℕ) (answer : CallAnswer) → text_answered count (fault_behind count answer) answer ≡ Some heard
    → Tells result made count answer

-- the file was read, and no other call was made
pub record IsCompared (made : ReportedBill) (path : List ℕ) (tree : TreeSeen)
    (result : Result BilledCrates Error) : Type 0 where
  pub answer : CallAnswer
  pub calls : MadeOn tree (read_of path answer ∷ [])
  pub tells : Tells result made tree.count_before answer
