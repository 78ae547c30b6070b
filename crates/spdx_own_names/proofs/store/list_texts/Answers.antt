use Rattle.std.proofs.Common.{Ok, Err}
use Rattle.tree_core.proofs.MadeLemmas.{list_some, some_joined}
use Rattle.spdx_own_names.proofs.StoreLemmas.{absent_folder, failed_folder, lost_folder, no_folder, texts_behind}
use Rattle.spdx_own_names.proofs.store.list_texts.Goals as goal

pub returns-in-Ok-clause-read : goal.returns-in-Ok-clause-read
returns-in-Ok-clause-read g c = texts_behind _ _ _ c.in-Ok.entries c.items.result.now c.read_texts.result c.items.ensures c.in-Ok.ensures.traced c.read_texts.ensures.read

pub returns-in-Ok-clause-made : goal.returns-in-Ok-clause-made
returns-in-Ok-clause-made g c =
    some_joined (list_some c.args.dir.now (Ok c.in-Ok.entries) c.in-Ok.ensures.same c.in-Ok.ensures.counts c.in-Ok.ensures.traced c.in-Ok.ensures.answer) c.read_texts.ensures.made

pub returns-in-Err-Absent-clause-read : goal.returns-in-Err-Absent-clause-read
returns-in-Err-Absent-clause-read g c = absent_folder _ _ c.in-Err-Absent.field-0 c.in-Err-Absent.field-0-is c.in-Err-Absent.ensures.traced

pub returns-in-Err-WrongKind-clause-read : goal.returns-in-Err-WrongKind-clause-read
returns-in-Err-WrongKind-clause-read g c = no_folder _ _ c.in-Err-WrongKind.field-0 c.in-Err-WrongKind.field-0-is c.in-Err-WrongKind.ensures.traced

pub returns-in-Err-Failed-clause-read : goal.returns-in-Err-Failed-clause-read
returns-in-Err-Failed-clause-read g c = failed_folder _ _ c.in-Err-Failed.field-0 _ c.in-Err-Failed.field-0-is c.faults.ensures c.in-Err-Failed.ensures.traced

pub returns-in-Err-Memory-clause-read : goal.returns-in-Err-Memory-clause-read
returns-in-Err-Memory-clause-read g c = lost_folder _ _ c.in-Err-Memory.field-0 c.in-Err-Memory.ensures.traced

pub returns-in-Err-Absent-clause-made : goal.returns-in-Err-Absent-clause-made
returns-in-Err-Absent-clause-made g c =
    list_some c.args.dir.now (Err c.in-Err-Absent.field-0) c.in-Err-Absent.ensures.same c.in-Err-Absent.ensures.counts c.in-Err-Absent.ensures.traced c.in-Err-Absent.ensures.answer

pub returns-in-Err-WrongKind-clause-made : goal.returns-in-Err-WrongKind-clause-made
returns-in-Err-WrongKind-clause-made g c =
    list_some c.args.dir.now (Err c.in-Err-WrongKind.field-0) c.in-Err-WrongKind.ensures.same c.in-Err-WrongKind.ensures.counts c.in-Err-WrongKind.ensures.traced c.in-Err-WrongKind.ensures.answer

pub returns-in-Err-Failed-clause-made : goal.returns-in-Err-Failed-clause-made
returns-in-Err-Failed-clause-made g c =
    list_some c.args.dir.now (Err c.in-Err-Failed.field-0) c.in-Err-Failed.ensures.same c.in-Err-Failed.ensures.counts c.in-Err-Failed.ensures.traced c.in-Err-Failed.ensures.answer

pub returns-in-Err-Memory-clause-made : goal.returns-in-Err-Memory-clause-made
returns-in-Err-Memory-clause-made g c =
    list_some c.args.dir.now (Err c.in-Err-Memory.field-0) c.in-Err-Memory.ensures.same c.in-Err-Memory.ensures.counts c.in-Err-Memory.ensures.traced c.in-Err-Memory.ensures.answer
