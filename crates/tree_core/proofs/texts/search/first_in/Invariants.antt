-- nothing is at the paths before this one
use Rattle.std.proofs.Common.{◌≡◌, ◌≤◌, ◌++◌, map, take}
use Rattle.tree_core.specs.Hearing.{MadeSome}
use Rattle.tree_core.specs.texts.Looked.{absent_looks}
use Rattle.tree_core.specs.texts.Search.{paths_in_folder}
use Rattle.tree_core.proofs.texts.search.first_in.Given as goal

abbrev pub invariant-names : goal.invariant-names
invariant-names g l =
    (l.begun ≤ g.T.Tree.fault_count l.tree)
    × (g.T.Tree.fault_count l.initial.tree ≤ g.T.Tree.fault_count l.tree)
    × (g.T.Tree.trace l.tree ≡ g.T.Tree.trace l.initial.tree ++ absent_looks (paths_in_folder (map (λ name. name.now) (take l.name-index l.name-items)) l.folder))
    × MadeSome (g.T.Tree.content l.initial.tree) (g.T.Tree.content l.tree) (g.T.Tree.fault_count l.initial.tree) (g.T.Tree.fault_count l.tree) (g.T.Tree.trace l.initial.tree) (g.T.Tree.trace l.tree)
