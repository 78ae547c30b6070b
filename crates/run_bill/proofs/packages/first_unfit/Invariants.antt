-- The crates that are left lead to what all crates lead to.
use Rattle.std.proofs.Common.{◌≡◌, drop, map}
use Rattle.graph_core.specs.selection.Listed.{record_behind}
use Rattle.run_bill.specs.Bills.{first_unfit}
use Rattle.run_bill.proofs.packages.first_unfit.Given as goal

abbrev pub invariant-crates : goal.invariant-crates
invariant-crates l = first_unfit (map record_behind (drop l.krate-index l.krates)) ≡ first_unfit (map record_behind l.krates)
