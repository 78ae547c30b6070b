use Rattle.std.proofs.Common.{sym, ◌∙◌}
use Rattle.toml_subset.specs.frames.Levels.{found_at}
use Rattle.toml_value.specs.TreeViews.{tree_view}
use Rattle.toml_value.proofs.LevelLemmas.{missing_from}
use Rattle.toml_value.proofs.tree.document.Document.enter.Goals as goal

pub enter_new-requires-clause-new : goal.enter_new-requires-clause-new
enter_new-requires-clause-new c = missing_from (found_at c.args.key (tree_view c.args.self.body)) (sym c.find.ensures ∙ c.in-None.is)
