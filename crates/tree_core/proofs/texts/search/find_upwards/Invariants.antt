-- nothing is at the paths of the folders before this one
use Rattle.std.proofs.Common.{◌≡◌, ◌≤◌, ℕ, List, ◌++◌, length}
use Rattle.std.specs.List.{flat_map}
use Rattle.std.specs.Option.{option_copied}
use Rattle.deny_text.specs.Path.{ancestors_from}
use Rattle.tree_core.specs.Hearing.{MadeSome}
use Rattle.tree_core.specs.texts.Looked.{absent_looks}
use Rattle.tree_core.specs.texts.Search.{names_sought, paths_in_folder, candidates}
use Rattle.tree_core.proofs.texts.search.find_upwards.Given as goal

abbrev pub invariant-folders : goal.invariant-folders
invariant-folders g l =
    (l.begun ≤ g.T.Tree.fault_count l.tree)
    × (g.T.Tree.fault_count l.initial.tree ≤ g.T.Tree.fault_count l.tree)
    × ((before : List (List ℕ)) × ((candidates l.sought l.manifest_path ≡ before ++ flat_map (paths_in_folder (names_sought l.sought)) (ancestors_from (option_copied l.folder)))
    × (g.T.Tree.trace l.tree ≡ g.T.Tree.trace l.initial.tree ++ absent_looks before)))
    × MadeSome (g.T.Tree.content l.initial.tree) (g.T.Tree.content l.tree) (g.T.Tree.fault_count l.initial.tree) (g.T.Tree.fault_count l.tree) (g.T.Tree.trace l.initial.tree) (g.T.Tree.trace l.tree)

abbrev pub decreases-folders : goal.decreases-folders
decreases-folders g l = length (ancestors_from (option_copied l.folder))
