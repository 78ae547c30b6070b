-- The reads that reports list.
use Rattle.std.specs.Prelude.{List, map}
use Rattle.check_core.specs.declared.report.CrateReport.{CrateReport}
use Rattle.run_found.specs.declared.reads.CrateRead.{CrateRead}

-- a crate's id, and the reads of its files
abbrev pub read_told : CrateReport → CrateRead
read_told report = record { id = report.id; reads = report.reads }

abbrev pub reads_told : List CrateReport → List CrateRead
reads_told reports = map read_told reports
