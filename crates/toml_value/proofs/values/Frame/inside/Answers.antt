use Rattle.std.proofs.Common.{subst, arith}
use Rattle.toml_subset.proofs.frames.Goings.{inside_shallow}
use Rattle.toml_subset.specs.frames.Frames.{in_table, IsShallowFrame}
use Rattle.toml_value.specs.StackViews.{frame_view}
use Rattle.toml_value.specs.TreeViews.{tree_view}
use Rattle.toml_value.proofs.values.Frame.inside.Goals as goal

pub overflow_add-result-in-Table-2 : goal.overflow_add-result-in-Table-2
overflow_add-result-in-Table-2 c =
    let at = c.in-Table.at in
    let a = c.in-Table.awaiting in
    let low = inside_shallow (in_table at.place at.above (tree_view a.tree) a.keys) (subst (λ f. IsShallowFrame (frame_view f)) c.in-Table.is c.requires) in
    let parts = c.parts.ensures in
    let more = c.saturating_sub.ensures in
    omega (arith, low)
