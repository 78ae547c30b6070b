-- A float is in all exactly where one is in what is left.
use Rattle.std.proofs.Common.{◌≡◌, drop}
use Rattle.serde_json.specs.View.{items_view, members_view}
use Rattle.serde_json.specs.Written.{items_have_float, members_have_float}
use Rattle.graph_metadata.proofs.floats.+has_float.Given as goal

abbrev pub invariant-items_hold_float-items : goal.invariant-items_hold_float-items
invariant-items_hold_float-items l =
    items_have_float (items_view l.items) ≡ items_have_float (items_view (drop l.item-index l.items))

abbrev pub invariant-members_hold_float-members : goal.invariant-members_hold_float-members
invariant-members_hold_float-members l =
    members_have_float (members_view l.members.entries) ≡ members_have_float (members_view l.value-iterator)
