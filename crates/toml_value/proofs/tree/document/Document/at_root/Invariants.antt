use Rattle.std.proofs.Common.{◌≡◌, map, length, IsTrue}
use Rattle.toml_subset.specs.frames.Levels.{all_plugged}
use Rattle.toml_value.specs.BranchViews.{branches_view, is_whole}
use Rattle.toml_value.specs.LevelViews.{level_view}
use Rattle.toml_value.specs.TreeViews.{tree_view}
use Rattle.toml_value.proofs.tree.document.Document.at_root.Given as goal

-- put together with what is left to put back, the table is the root
abbrev pub invariant-levels : goal.invariant-levels
invariant-levels l =
    (all_plugged (map (λ x. level_view x) l.around.items) (branches_view l.table)
    ≡ all_plugged (map (λ x. level_view x) l.fn.self.around.items) (tree_view l.fn.self.body))
    × IsTrue (is_whole l.table)

abbrev pub decreases-levels : goal.decreases-levels
decreases-levels l = length l.around.items
