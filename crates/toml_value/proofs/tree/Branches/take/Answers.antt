use Rattle.std.proofs.Common.{ap, ◌∙◌}
use Rattle.toml_subset.specs.frames.Levels.{branches_with_node}
use Rattle.toml_value.specs.BranchViews.{branches_view}
use Rattle.toml_value.proofs.LevelLemmas.{put_back-view, put_back-whole}
use Rattle.toml_value.proofs.tree.Branches.take.Goals as goal

pub returns-clause-left : goal.returns-clause-left
returns-clause-left c =
    let table = c.args.self.now in
    put_back-view table c.replace.new.self c.args.place c.hole.result c.replace.ensures.keys c.replace.ensures.nodes
    ∙ ap (λ n. branches_with_node c.args.place n (branches_view table)) c.hole.ensures.view

pub returns-clause-whole : goal.returns-clause-whole
returns-clause-whole c =
    put_back-whole c.args.self.now c.replace.new.self c.args.place c.hole.result c.replace.ensures.keys c.replace.ensures.nodes c.requires.whole c.hole.ensures.whole
