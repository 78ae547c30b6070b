use Rattle.std.proofs.Common.{map, ap, ◌∙◌}
use Rattle.toml_subset.specs.frames.Levels.{all_plugged}
use Rattle.toml_value.specs.BranchViews.{branches_view}
use Rattle.toml_value.specs.LevelViews.{level_view}
use Rattle.toml_value.proofs.LevelLemmas.{level_back}
use Rattle.toml_value.proofs.tree.document.Document.at_root.Goals as goal

pub levels-init : goal.levels-init
levels-init c = (ap (all_plugged (map (λ x. level_view x) c.args.self.around.items)) c.into_root-table.ensures.view, c.into_root-table.ensures.whole)

pub levels-preserved : goal.levels-preserved
levels-preserved c =
    let rest = c.pop.new.self.items in (
      level_back c.levels.around.items rest c.in-Some.level (branches_view c.levels.table) (branches_view c.with-table.result) c.in-Some.ensures.items c.with-table.ensures.view
          ∙ c.levels.invariant.0,
      c.with-table.ensures.whole,
    )
