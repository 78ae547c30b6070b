-- One member more, the first fault, and the end.
use Rattle.std.proofs.Common.{◌≡◌, ◌∷◌, [], ◌++◌, map, ap}
use Rattle.std.proofs.lemmas.Result.{err_from_is_err_and}
use Rattle.std.proofs.lemmas.List.{map_push}
use Rattle.serde_json.specs.View.{view, items_view}
use Rattle.graph_metadata.specs.NodeRows.{member_of}
use Rattle.graph_metadata.specs.Nodes.{member_row, members_in}
use Rattle.graph_metadata.proofs.EachLemmas.{each-view, starts, goes_on, ends, is_done}
use Rattle.graph_metadata.proofs.nodes.members_in.Goals as goal

pub members-init : goal.members-init
members-init c =
    starts (λ j value. member_row c.args.known.now j (view value)) c.args.items.now 0 (map member_of c.in_ok-members.members.items)
    (members_in c.args.known.now (items_view c.args.items.now))
    (ap (map member_of) c.in_ok-members.ensures.items)
    (each-view (λ j value. member_row c.args.known.now j value) c.args.items.now)

pub returns-in_err-member : goal.returns-in_err-member
returns-in_err-member c =
    let p = err_from_is_err_and c.from_residual-in_err-member.result c.from_residual-in_err-member.ensures.1 in
    rw (p.1, p.2)
    (ends (λ j value. member_row c.args.known.now j (view value)) c.args.items.now c.members.index
    (map member_of c.members.members.items) (members_in c.args.known.now (items_view c.args.items.now)) c.index-items-index.result
    c.in_err-member.field-0.0 c.members-test.true c.index-items-index.is c.in_err-member.ensures c.members.invariant)

pub members-preserved : goal.members-preserved
members-preserved c =
    let more : map member_of c.push.new.self.items ≡ map member_of c.members.members.items ++ member_of c.in_ok-member.member ∷ [] =
    rw c.in_ok-push.ensures.items (map_push member_of c.members.members.items c.in_ok-member.member) in
    rw more
    (goes_on (λ j value. member_row c.args.known.now j (view value)) c.args.items.now c.members.index
    (map member_of c.members.members.items) (members_in c.args.known.now (items_view c.args.items.now)) c.index-items-index.result
    (member_of c.in_ok-member.member) c.members-test.true c.index-items-index.is c.in_ok-member.ensures c.members.invariant)

pub returns : goal.returns
returns c =
    is_done (λ j value. member_row c.args.known.now j (view value)) c.args.items.now c.members.index
    (map member_of c.members.members.items) (members_in c.args.known.now (items_view c.args.items.now)) c.members-test.false c.members.invariant
