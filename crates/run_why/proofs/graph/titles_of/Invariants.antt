-- The titles so far.
use Rattle.std.proofs.Common.{◌≡◌, take}
use Rattle.run_why.specs.Steps.{titles_in}
use Rattle.run_why.proofs.graph.titles_of.Given as goal

abbrev pub invariant-crates : goal.invariant-crates
invariant-crates l = l.titles ≡ titles_in (take l.krate-index l.krates)
