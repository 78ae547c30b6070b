use Rattle.tree_core.proofs.NameOrderLemmas.{IsInNameOrder-named}
use Rattle.tree_core.proofs.folder_tree.list_opened.Goals as goal

pub returns-clause-ordered : goal.returns-clause-ordered
returns-clause-ordered g c = IsInNameOrder-named c.entries_named.result c.in_ok-names.names.items c.entries_named.ensures.named c.in_ok-names.ensures.ordered
