-- One node more, the first fault, and the end.
use Rattle.std.proofs.Common.{◌≡◌, ◌∷◌, [], ◌++◌, map, ap}
use Rattle.std.proofs.lemmas.Result.{err_from_is_err_and}
use Rattle.std.proofs.lemmas.List.{map_push}
use Rattle.serde_json.specs.View.{view, items_view}
use Rattle.graph_metadata.specs.NodeRows.{node_of}
use Rattle.graph_metadata.specs.Nodes.{node_row, nodes_with}
use Rattle.graph_metadata.proofs.EachLemmas.{each-view, starts, goes_on, ends, is_done}
use Rattle.graph_metadata.proofs.nodes.nodes_with.Goals as goal

pub nodes-init : goal.nodes-init
nodes-init c =
    starts (λ j value. node_row c.args.known.now c.args.firsts.now j (view value)) c.args.items.now 0 (map node_of c.in_ok-nodes.nodes.items)
    (nodes_with c.args.known.now c.args.firsts.now (items_view c.args.items.now))
    (ap (map node_of) c.in_ok-nodes.ensures.items)
    (each-view (λ j value. node_row c.args.known.now c.args.firsts.now j value) c.args.items.now)

pub returns-in_err-node : goal.returns-in_err-node
returns-in_err-node c =
    let p = err_from_is_err_and c.from_residual-in_err-node.result c.from_residual-in_err-node.ensures.1 in
    rw (p.1, p.2)
    (ends (λ j value. node_row c.args.known.now c.args.firsts.now j (view value)) c.args.items.now c.nodes.index
    (map node_of c.nodes.nodes.items) (nodes_with c.args.known.now c.args.firsts.now (items_view c.args.items.now)) c.index-items-index.result
    c.in_err-node.field-0.0 c.nodes-test.true c.index-items-index.is c.in_err-node.ensures c.nodes.invariant)

pub nodes-preserved : goal.nodes-preserved
nodes-preserved c =
    let more : map node_of c.push.new.self.items ≡ map node_of c.nodes.nodes.items ++ node_of c.in_ok-node.node ∷ [] =
    rw c.in_ok-push.ensures.items (map_push node_of c.nodes.nodes.items c.in_ok-node.node) in
    rw more
    (goes_on (λ j value. node_row c.args.known.now c.args.firsts.now j (view value)) c.args.items.now c.nodes.index
    (map node_of c.nodes.nodes.items) (nodes_with c.args.known.now c.args.firsts.now (items_view c.args.items.now)) c.index-items-index.result
    (node_of c.in_ok-node.node) c.nodes-test.true c.index-items-index.is c.in_ok-node.ensures c.nodes.invariant)

pub returns : goal.returns
returns c =
    is_done (λ j value. node_row c.args.known.now c.args.firsts.now j (view value)) c.args.items.now c.nodes.index
    (map node_of c.nodes.nodes.items) (nodes_with c.args.known.now c.args.firsts.now (items_view c.args.items.now)) c.nodes-test.false c.nodes.invariant
