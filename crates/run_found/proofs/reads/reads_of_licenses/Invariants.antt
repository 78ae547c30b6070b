-- the reads so far
use Rattle.std.proofs.Common.{◌≡◌, map}
use Rattle.run_found.specs.Reads.{read_gathered}
use Rattle.run_found.proofs.reads.reads_of_licenses.Given as goal

abbrev pub invariant-crates : goal.invariant-crates
invariant-crates l = l.reads ≡ map read_gathered l.yielded
