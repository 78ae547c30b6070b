use Rattle.std.proofs.Common.{◌≡◌, sym, ◌∙◌, ap}
use Rattle.tree_core.specs.Stored.{content_of}
use Rattle.tree_core.specs.TreeState.{TreeState}
use Rattle.tree_core.proofs.StoredLemmas.{get-content_of}
use Rattle.tree_core.proofs.mem_tree.MemTree.at.Goals as goal

pub returns : goal.returns
returns c =
    let content_is : content_of c.self.inside.nodes.entries ≡ c.args.self.now.content = ap (λ (s : TreeState). s.content) c.self.view_is in
    rw (← content_is) (c.find.ensures ∙ sym (get-content_of _ _ c.self.invariant.ordered))
