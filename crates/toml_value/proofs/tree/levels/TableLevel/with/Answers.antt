use Rattle.std.proofs.Common.{ap, ◌∙◌}
use Rattle.toml_subset.specs.frames.Levels.{branches_with_node}
use Rattle.toml_value.specs.BranchViews.{branches_view}
use Rattle.toml_value.proofs.LevelLemmas.{put_back-view, put_back-whole}
use Rattle.toml_value.proofs.tree.levels.TableLevel.with.Goals as goal

pub returns-clause-view : goal.returns-clause-view
returns-clause-view c =
    let level = c.args.self in
    put_back-view level.table c.put_back.new.self level.place c.with.result c.put_back.ensures.keys c.put_back.ensures.nodes
    ∙ ap (λ n. branches_with_node level.place n (branches_view level.table)) c.with.ensures.view

pub returns-clause-whole : goal.returns-clause-whole
returns-clause-whole c =
    let level = c.args.self in
    put_back-whole level.table c.put_back.new.self level.place c.with.result c.put_back.ensures.keys c.put_back.ensures.nodes level.whole c.with.ensures.whole
