use Rattle.std.proofs.Common.{◌≡◌, ap}
use Rattle.tree_core.specs.Stored.{content_of}
use Rattle.tree_core.specs.TreeState.{TreeState}
use Rattle.tree_core.proofs.mem_tree.MemTree.put.Goals as goal

pub returns-clause-ok_only : goal.returns-clause-ok_only
returns-clause-ok_only c =
    let content_is : content_of c.self.inside.nodes.entries ≡ c.args.self.now.content = ap (λ (s : TreeState). s.content) c.self.view_is in
    rw (← content_is, ← c.in_ok-place.ensures) c.put_at.ensures.ok_only

pub returns-clause-clash_only : goal.returns-clause-clash_only
returns-clause-clash_only c =
    let content_is : content_of c.self.inside.nodes.entries ≡ c.args.self.now.content = ap (λ (s : TreeState). s.content) c.self.view_is in
    rw (← content_is, ← c.in_ok-place.ensures) c.put_at.ensures.clash_only
