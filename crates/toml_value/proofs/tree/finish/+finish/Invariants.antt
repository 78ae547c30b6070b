use Rattle.std.proofs.Common.{◌≡◌, map}
use Rattle.std.specs.Vec.Iter.{into_iter_items}
use Rattle.toml_subset.specs.Tables.{entries_of}
use Rattle.toml_value.specs.BranchViews.{branches_view, body_view, body_items}
use Rattle.toml_value.specs.FinishViews.{joined_entries, left_of}
use Rattle.toml_value.specs.Views.{entries_view, values_view}
use Rattle.toml_value.proofs.FinishLemmas.{items_followed}
use Rattle.toml_value.proofs.tree.finish.+finish.Given as goal

-- the entries so far, and those of what is left
abbrev pub invariant-into_entries-nodes : goal.invariant-into_entries-nodes
invariant-into_entries-nodes l =
    entries_of (branches_view l.fn.table) ≡ joined_entries (entries_view l.entries) (left_of l.keys (into_iter_items l.node-iterator))

-- the items so far, and those of the tables that are left
abbrev pub invariant-into_items-bodies : goal.invariant-into_items-bodies
invariant-into_items-bodies l =
    body_items (map (λ b. body_view b) l.fn.bodies.items)
    ≡ items_followed (values_view l.items) (body_items (map (λ b. body_view b) (into_iter_items l.body-iterator)))
