use Rattle.std.proofs.Common.{take}
use Rattle.check_why.specs.Object.{read_data}
use Rattle.diag_print.specs.JsonTokens.{Adds}
use Rattle.diag_print.proofs.JsonLemmas.{each_tokens}
use Rattle.check_why.proofs.object.write_reads.Given as goal

-- the reads so far were written
abbrev pub invariant-reads : goal.invariant-reads
invariant-reads l = Adds l.initial.out l.out (each_tokens read_data (take l.read-index l.reads))
