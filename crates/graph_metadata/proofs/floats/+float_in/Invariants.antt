-- The first float of all is the first of what is left.
use Rattle.std.proofs.Common.{◌≡◌, drop}
use Rattle.serde_json.specs.View.{items_view, members_view}
use Rattle.graph_metadata.specs.Floats.{float_in_items, float_in_members}
use Rattle.graph_metadata.proofs.floats.+float_in.Given as goal

abbrev pub invariant-float_in_items-items : goal.invariant-float_in_items-items
invariant-float_in_items-items l =
    float_in_items l.place 0 (items_view l.items) ≡ float_in_items l.place l.index (items_view (drop l.index l.items))

abbrev pub invariant-float_in_members-members : goal.invariant-float_in_members-members
invariant-float_in_members-members l =
    float_in_members l.place (members_view l.members.entries) ≡ float_in_members l.place (members_view l.key-iterator)
