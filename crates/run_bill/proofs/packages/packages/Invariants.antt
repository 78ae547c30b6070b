-- The packages so far, and those of the crates that are left, are all.
use Rattle.std.proofs.Common.{◌≡◌, ◌++◌, map}
use Rattle.std.specs.Iterator.Adapters.{zip_first, zip_second}
use Rattle.std.specs.Slice.Iter.{iter_rest}
use Rattle.graph_core.specs.selection.Listed.{record_behind}
use Rattle.run_bill.specs.Bills.{packages_of}
use Rattle.run_bill.proofs.packages.packages.Given as goal

abbrev pub invariant-crates : goal.invariant-crates
invariant-crates l =
    l.packages ++ packages_of (map record_behind (iter_rest (zip_first l.krate-iterator))) (iter_rest (zip_second l.krate-iterator))
    ≡ packages_of (map record_behind l.krates) l.reports
