use Rattle.std.specs.Prelude.{Ok, Err}
use Rattle.tree_core.proofs.MadeLemmas.{read_some}
use Rattle.tree_core.proofs.file_reads.AnsweredLemmas as answered
use Rattle.tree_core.proofs.file_reads.reading.read_at.Goals as goal

pub returns-in-Ok-clause-read : goal.returns-in-Ok-clause-read
returns-in-Ok-clause-read g c = answered.bytes_read _ _ _ _ _ _ _ c.in-Ok.ensures.traced c.text_of.ensures

pub returns-in-Err-Absent-clause-read : goal.returns-in-Err-Absent-clause-read
returns-in-Err-Absent-clause-read g c =
    answered.absent_read _ _ _ _ _ c.in-Err-Absent.field-0 c.in-Err-Absent.field-0-is c.in-Err-Absent.ensures.traced

pub returns-in-Err-WrongKind-clause-read : goal.returns-in-Err-WrongKind-clause-read
returns-in-Err-WrongKind-clause-read g c =
    answered.folder_read _ _ _ _ _ c.in-Err-WrongKind.field-0 c.in-Err-WrongKind.field-0-is c.in-Err-WrongKind.ensures.traced

pub returns-in-Err-Failed-clause-read : goal.returns-in-Err-Failed-clause-read
returns-in-Err-Failed-clause-read g c =
    answered.failure_read _ _ _ _ _ c.in-Err-Failed.field-0 _ _ c.in-Err-Failed.field-0-is c.faults-before.ensures c.faults.ensures c.in-Err-Failed.ensures.traced

pub returns-in-Err-Memory-clause-no_memory : goal.returns-in-Err-Memory-clause-no_memory
returns-in-Err-Memory-clause-no_memory g c =
    answered.memory_read 0 0 _ _ _ c.in-Err-Memory.field-0 c.in-Err-Memory.field-0-is c.in-Err-Memory.ensures.traced

pub returns-in-Ok-clause-made : goal.returns-in-Ok-clause-made
returns-in-Ok-clause-made g c =
    read_some c.args.path.now (Ok c.in-Ok.bytes) c.in-Ok.ensures.same c.in-Ok.ensures.counts c.in-Ok.ensures.traced c.in-Ok.ensures.answer

pub returns-in-Err-Absent-clause-made : goal.returns-in-Err-Absent-clause-made
returns-in-Err-Absent-clause-made g c =
    read_some c.args.path.now (Err c.in-Err-Absent.field-0) c.in-Err-Absent.ensures.same c.in-Err-Absent.ensures.counts c.in-Err-Absent.ensures.traced c.in-Err-Absent.ensures.answer

pub returns-in-Err-WrongKind-clause-made : goal.returns-in-Err-WrongKind-clause-made
returns-in-Err-WrongKind-clause-made g c =
    read_some c.args.path.now (Err c.in-Err-WrongKind.field-0) c.in-Err-WrongKind.ensures.same c.in-Err-WrongKind.ensures.counts c.in-Err-WrongKind.ensures.traced c.in-Err-WrongKind.ensures.answer

pub returns-in-Err-Failed-clause-made : goal.returns-in-Err-Failed-clause-made
returns-in-Err-Failed-clause-made g c =
    read_some c.args.path.now (Err c.in-Err-Failed.field-0) c.in-Err-Failed.ensures.same c.in-Err-Failed.ensures.counts c.in-Err-Failed.ensures.traced c.in-Err-Failed.ensures.answer

pub returns-in-Err-Memory-clause-made : goal.returns-in-Err-Memory-clause-made
returns-in-Err-Memory-clause-made g c =
    read_some c.args.path.now (Err c.in-Err-Memory.field-0) c.in-Err-Memory.ensures.same c.in-Err-Memory.ensures.counts c.in-Err-Memory.ensures.traced c.in-Err-Memory.ensures.answer
