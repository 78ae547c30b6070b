-- the texts among the entries so far were found
use Rattle.std.proofs.Common.{◌≤◌, map, take, Ok}
use Rattle.tree_core.specs.Answer.{listed_entry}
use Rattle.tree_core.specs.Hearing.{MadeSome}
use Rattle.spdx_own_names.specs.Folder.{AreTextsRead, texts_of}
use Rattle.spdx_own_names.proofs.store.read_texts.Given as goal

abbrev pub invariant-entries : goal.invariant-entries
invariant-entries g l =
    (l.before ≤ g.T.Tree.fault_count l.tree)
    × (g.T.Tree.fault_count l.initial.tree ≤ g.T.Tree.fault_count l.tree)
    × AreTextsRead l.before (g.T.Tree.fault_count l.tree) (g.T.Tree.trace l.initial.tree) (g.T.Tree.trace l.tree) l.dir (texts_of (map listed_entry (take l.entry-index l.entries))) (Ok l.texts)
    × MadeSome (g.T.Tree.content l.initial.tree) (g.T.Tree.content l.tree) (g.T.Tree.fault_count l.initial.tree) (g.T.Tree.fault_count l.tree) (g.T.Tree.trace l.initial.tree) (g.T.Tree.trace l.tree)
