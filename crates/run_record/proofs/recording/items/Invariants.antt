-- the items so far, and the reports that are left
use Rattle.std.proofs.Common.{◌≡◌, map, take, drop}
use Rattle.std.specs.List.{AllByRecursion}
use Rattle.check_record.specs.Items.{IsRecordItem}
use Rattle.run_record.specs.Judged.{IsJudgedReport}
use Rattle.run_record.specs.Recorded.{item_in}
use Rattle.run_record.proofs.recording.items.Given as goal

abbrev pub invariant-crates : goal.invariant-crates
invariant-crates l = record {
  items : l.items ≡ map item_in (take l.report-index l.reports);
  each : AllByRecursion IsRecordItem l.items;
  left : AllByRecursion IsJudgedReport (drop l.report-index l.reports);
}
