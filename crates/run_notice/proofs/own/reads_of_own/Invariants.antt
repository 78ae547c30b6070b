-- the reads so far
use Rattle.std.proofs.Common.{◌≡◌, map}
use Rattle.run_notice.specs.Own.{read_kept}
use Rattle.run_notice.proofs.own.reads_of_own.Given as goal

abbrev pub invariant-crates : goal.invariant-crates
invariant-crates l = l.reads ≡ map read_kept l.yielded
