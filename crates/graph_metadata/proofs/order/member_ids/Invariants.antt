-- The ids so far, and those of the rest, are all.
use Rattle.std.proofs.Common.{◌≡◌, ◌++◌, map, drop}
use Rattle.graph_metadata.specs.NodeRows.{member_of}
use Rattle.graph_metadata.specs.Order.{id_of_member}
use Rattle.graph_metadata.proofs.order.member_ids.Given as goal

abbrev pub invariant-members : goal.invariant-members
invariant-members l =
    l.ids ++ map id_of_member (map member_of (drop l.member-index l.members)) ≡ map id_of_member (map member_of l.members)
