-- the crates so far, each with the report on it and its texts
use Rattle.std.proofs.Common.{◌≡◌, map, take}
use Rattle.graph_core.specs.selection.Listed.{record_behind}
use Rattle.check_notice.specs.Notice.{noticed_of}
use Rattle.run_notice.specs.Steps.{noticed_by}
use Rattle.run_notice.proofs.making.sources.Given as goal

abbrev pub invariant-crates : goal.invariant-crates
invariant-crates l = map noticed_of l.sources ≡ noticed_by (map record_behind (take l.place l.krates)) l.reports l.own
