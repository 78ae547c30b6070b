use Rattle.std.proofs.Common.{◌≡◌, ◌∷◌, true, is_some, sym, ap, subst, ◌∙◌}
use Rattle.toml_subset.specs.Tables.{branches_with_value}
use Rattle.toml_subset.proofs.Law.Made.{put_made}
use Rattle.toml_value.specs.BranchViews.{branches_view, closed_node}
use Rattle.toml_value.proofs.tree.tables.Awaiting.put.Goals as goal

pub put_along-requires-clause-free : goal.put_along-requires-clause-free
put_along-requires-clause-free c =
    let here = c.args.self in
    let made = put_made here.keys (closed_node c.args.value) (branches_view here.tree.root) here.above here.some here.free in
    let parts : here.keys ≡ c.in-Some.first ∷ c.next.new.self = sym c.new-parts.ensures ∙ c.in-Some.ensures in
    subst (λ keys. is_some (branches_with_value keys (closed_node c.args.value) (branches_view here.tree.root)) ≡ true) parts (ap is_some made.1)
