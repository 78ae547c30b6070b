-- The texts of the crates so far.
use Rattle.std.proofs.Common.{map, take}
use Rattle.graph_core.specs.selection.Listed.{record_behind}
use Rattle.run_found.specs.Hearing.{tree_seen}
use Rattle.run_notice.specs.Own.{HaveOwnTexts}
use Rattle.run_notice.proofs.own.own_of_crates.Given as goal

abbrev pub invariant-crates : goal.invariant-crates
invariant-crates g l =
    HaveOwnTexts (map record_behind (take l.krate-index l.krates))
    (tree_seen (g.T.Tree.content l.fn.tree) (g.T.Tree.content l.tree) (g.T.Tree.fault_count l.fn.tree) (g.T.Tree.fault_count l.tree) (g.T.Tree.trace l.fn.tree) (g.T.Tree.trace l.tree)) l.texts
