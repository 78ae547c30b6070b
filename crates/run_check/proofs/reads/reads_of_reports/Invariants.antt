-- the reads so far
use Rattle.std.proofs.Common.{◌≡◌, map}
use Rattle.run_check.specs.Reads.{read_told}
use Rattle.run_check.proofs.reads.reads_of_reports.Given as goal

abbrev pub invariant-crates : goal.invariant-crates
invariant-crates l = l.reads ≡ map read_told l.yielded
