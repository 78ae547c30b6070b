use Rattle.std.proofs.Common.{map, sym, ap, ◌∙◌}
use Rattle.toml_subset.specs.frames.Levels.{header_branches}
use Rattle.toml_subset.specs.declared.frames.part.HeaderPart.TheVariants.{Through}
use Rattle.toml_value.specs.BranchViews.{node_view, branches_view, body_view}
use Rattle.toml_value.proofs.LevelLemmas.{node_view-tables, through_tables}
use Rattle.toml_value.proofs.tree.levels.opened_through.Goals as goal

pub returns-in-Tables-clause-view : goal.returns-in-Tables-clause-view
returns-in-Tables-clause-view c =
    let t = c.in-Tables in
    sym (ap (λ n. header_branches Through (node_view n)) t.is ∙ ap (header_branches Through) (node_view-tables t.span t.before t.last t.inner)
    ∙ through_tables t.span t.last (map (λ b. body_view b) t.before.items) (branches_view t.inner))
