use Rattle.std.proofs.Common.{◌<◌, subst, arith}
use Rattle.toml_subset.specs.frames.Levels.{size}
use Rattle.toml_value.specs.BelowViews.{HasRoom}
use Rattle.toml_value.specs.BranchViews.{branches_view}
use Rattle.toml_value.proofs.LevelLemmas.{sized}
use Rattle.toml_value.proofs.tree.put.with_below.Goals as goal

pub with_node-requires-clause-inside : goal.with_node-requires-clause-inside
with_node-requires-clause-inside c =
    let table = c.args.table in
    let room : c.in-Some.place < size (branches_view table) = subst (λ p. HasRoom p c.args.key (branches_view table)) c.in-Some.is c.requires.room in
    let as_many = sized table c.requires.whole in
    omega arith

pub with-requires-clause-new : goal.with-requires-clause-new
with-requires-clause-new c = subst (λ p. HasRoom p c.args.key (branches_view c.args.table)) c.in-None.is c.requires.room
