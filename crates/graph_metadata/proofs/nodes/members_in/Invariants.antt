-- What is reported of all is what is reported of the rest, behind what was reported before.
use Rattle.std.proofs.Common.{◌≡◌, map, drop}
use Rattle.serde_json.specs.View.{view, items_view}
use Rattle.graph_metadata.specs.NodeRows.{member_of}
use Rattle.graph_metadata.specs.Nodes.{member_row, members_in}
use Rattle.graph_metadata.specs.Told.{reading_of_each}
use Rattle.graph_metadata.proofs.EachLemmas.{onto}
use Rattle.graph_metadata.proofs.nodes.members_in.Given as goal

abbrev pub invariant-members : goal.invariant-members
invariant-members l =
    members_in l.known (items_view l.items)
    ≡ onto (map member_of l.members.items) (reading_of_each (λ j value. member_row l.known j (view value)) l.index (drop l.index l.items))
