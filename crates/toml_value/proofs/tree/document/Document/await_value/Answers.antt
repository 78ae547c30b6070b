use Rattle.std.proofs.Common.{length, ap, ◌∙◌, arith}
use Rattle.toml_subset.specs.TableFaults.{put_fault}
use Rattle.toml_subset.proofs.Law.Ways.{put_room}
use Rattle.toml_value.specs.TreeViews.{tree_view}
use Rattle.toml_value.proofs.TurnLemmas.{awaited}
use Rattle.toml_value.proofs.tree.document.Document.await_value.Goals as goal

pub invariant_of-result : goal.invariant_of-result
invariant_of-result c =
    let tree = tree_view c.args.self.body in
    let above = c.args.self.above in
    let a = c.in-Ok.awaiting in
    let is = awaited (put_fault c.args.keys tree above) c.args.keys tree a c.in-Ok.ensures in
    let room = put_room c.args.keys tree above is.free c.requires.shallow in
    let as_many = ap length is.keys_are in
    record {
      free = ap (λ ks. put_fault ks (tree_view a.tree) above) is.keys_are ∙ ap (λ t. put_fault c.args.keys t above) is.tree_is ∙ is.free;
      room = omega arith;
    }
