use Rattle.tree_core.proofs.mem_tree.MemTree.new.Goals as goal
use Rattle.tree_core.proofs.PutLemmas.{IsSound-none, content_of-none}

pub invariant_of-result : goal.invariant_of-result
invariant_of-result c = rw c.new.ensures.empty IsSound-none

pub returns-clause-content : goal.returns-clause-content
returns-clause-content c = rw c.new.ensures.empty content_of-none

pub returns-clause-rooted : goal.returns-clause-rooted
returns-clause-rooted c = rw c.new.ensures.empty (IsSound-none.rooted)
