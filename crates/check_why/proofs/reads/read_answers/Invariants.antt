-- The answers so far, and those of the reads that are left, are all.
use Rattle.std.proofs.Common.{◌≡◌, ◌++◌, drop}
use Rattle.check_why.specs.Kept.{answers_by}
use Rattle.check_why.proofs.reads.read_answers.Given as goal

abbrev pub invariant-reads : goal.invariant-reads
invariant-reads l = l.answers ++ answers_by (drop l.read-index l.reads) l.rest ≡ answers_by l.reads l.kept
