-- The marks so far.
use Rattle.std.proofs.Common.{◌≡◌, map, take}
use Rattle.graph_core.specs.selection.Choice.{exclude_spec_of}
use Rattle.run_why.specs.Named.{marks_of}
use Rattle.run_why.proofs.named.marks_by.Given as goal

abbrev pub invariant-crates : goal.invariant-crates
invariant-crates l = l.marks.items ≡ marks_of (map exclude_spec_of l.specs) (take l.krate-index l.crates)
