use Rattle.std.proofs.Common.{arith}
use Rattle.std.proofs.lemmas.Grind.{common_steps}
use Rattle.tree_core.proofs.mem_tree.MemTree.answer_list.Goals as goal

pub returns-in-File-clause-answer : goal.returns-in-File-clause-answer
returns-in-File-clause-answer c = (c.in-File.field-0.now, grind (arith, common_steps))
