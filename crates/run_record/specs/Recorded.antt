-- What recording answers and writes.
use Rattle.std.specs.Prelude.{◌≡◌, ◌⊎◌, ℕ, List, map, Result, Ok, Err}
use Rattle.tree_core.specs.Faults.{Gained, GainedPrefix}
use Rattle.check_record.specs.declared.items.RecordItem.{RecordItem}
use Rattle.check_record.specs.Items.{IsRecord}
use Rattle.check_record.specs.Spelling.{spelled_of}
use Rattle.check_verify.specs.Recorded.{recorded_of}
use Rattle.run_found.specs.declared.error.Error.{Error}
use Rattle.run_found.specs.declared.error.Error.TheVariants.{Memory}
use Rattle.run_found.specs.declared.reads.CrateRead.{CrateRead}
use Rattle.run_found.specs.Hearing.{RequestHearing, TreeSeen}
use Rattle.run_found.specs.Written.{IsSilent, SinkSeen}
use Rattle.run_command.specs.Given.{CommandArguments}
use Rattle.run_command.specs.Settled.{WritesOut}
use Rattle.run_command.specs.Written.{IsWriteFault}
use Rattle.check_core.specs.declared.report.CrateReport.{CrateReport}
use Rattle.run_check.specs.declared.report.Report.{Report}
use Rattle.run_check.specs.Reads.{reads_told}
use Rattle.run_check.specs.Report.{IsReport}

-- ---- what is recorded

-- a crate's id, and its verdict with what shows it
abbrev pub item_in : CrateReport → RecordItem
item_in report = record { id = report.id; verdict = recorded_of report.verdict }

abbrev pub items_in : Report → List RecordItem
items_in report = map item_in report.crates

abbrev pub reads_in : Report → List CrateRead
reads_in report = reads_told report.crates

-- the file of a report's verdicts
abbrev pub file_in : Report → List ℕ
file_in report = spelled_of (items_in report)

-- ---- what is answered and written

-- what was read asks for this report of a check, and the verdicts that it gives are a record
abbrev pub IsRecorded : CommandArguments → Report → RequestHearing → Type 0
IsRecorded given report hearing = IsReport given hearing report × IsRecord (items_in report)

-- Such a report was found, and its file was written; the reads are those that it lists. Or the command was refused
-- before it did its own, and nothing is on `out`; or a write of the file was refused.
abbrev pub Records : CommandArguments → TreeSeen → SinkSeen → SinkSeen → Result (List CrateRead) Error → Type 0
Records given tree err out result = WritesOut given tree err out (IsRecorded given) file_in reads_in result

-- ---- of a report alone. Only the contracts of private calls cite these.

-- its file was written
pub record RecordsAll (report : Report) (out : SinkSeen) (reads : List CrateRead) : Type 0 where
  pub is : IsRecord (items_in report)
  pub spelled : Gained out.old out.new (file_in report)
  pub reads_are : reads ≡ reads_in report

-- a prefix of it was, behind which a write was refused
pub record CutsRecord (report : Report) (out : SinkSeen) (error : Error) : Type 0 where
  pub is : IsRecord (items_in report)
  pub refused : IsWriteFault out.before out.after error
  pub front : GainedPrefix out.old out.new (file_in report)

-- or memory was wanting before
abbrev pub RecordsOn : Report → SinkSeen → Result (List CrateRead) Error → Type 0
RecordsOn report out (Ok reads) = RecordsAll report out reads
RecordsOn report out (Err error) = ((error ≡ Memory) × IsSilent out) ⊎ CutsRecord report out error
