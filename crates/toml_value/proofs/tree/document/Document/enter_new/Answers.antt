use Rattle.std.proofs.Common.{◌≡◌, ◌<◌, length, ap, ◌∙◌, arith}
use Rattle.toml_subset.specs.Tables.{has_key}
use Rattle.toml_subset.specs.frames.Levels.{size}
use Rattle.toml_subset.proofs.frames.Levels.{is_missing}
use Rattle.toml_value.specs.BranchViews.{branches_view, node_view}
use Rattle.toml_value.specs.LevelViews.{cursor_view}
use Rattle.toml_value.proofs.LevelLemmas.{sized, size_added}
use Rattle.toml_value.proofs.tree.document.Document.enter_new.Goals as goal

pub with-requires-clause-new : goal.with-requires-clause-new
with-requires-clause-new c =
    ap (has_key c.args.key) c.into_root-root.ensures.view ∙ (is_missing c.args.key (cursor_view c.args.self).here c.requires.new).has

pub invariant_of-level : goal.invariant_of-level
invariant_of-level c =
    let old = branches_view c.into_root-root.result in
    let new = sized c.in-Ok.table c.in-Ok.ensures.whole in
    let more = ap size c.in-Ok.ensures.view ∙ size_added c.args.key (node_view c.hole-empty.result) old in
    let place : c.size-place.result ≡ size old = c.size-place.ensures in
    let inside : c.size-place.result < length c.in-Ok.table.nodes.items = omega arith in
    record { whole = c.in-Ok.ensures.whole; inside = inside; around_whole = c.in-Some.ensures.around }
