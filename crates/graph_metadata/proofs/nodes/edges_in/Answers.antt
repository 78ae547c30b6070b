-- One edge more, the first fault, and the end.
use Rattle.std.proofs.Common.{map, ◌∙◌}
use Rattle.std.proofs.lemmas.Result.{err_from_is_err_and}
use Rattle.graph_metadata.specs.NodeRows.{dep_of}
use Rattle.graph_metadata.specs.Nodes.{edge_row, edges_in}
use Rattle.graph_metadata.proofs.EachLemmas.{each-map, starts, goes_on, ends, is_done}
use Rattle.graph_metadata.proofs.nodes.edges_in.Goals as goal

pub edges-init : goal.edges-init
edges-init c =
    starts (λ j value. edge_row c.args.i j (dep_of value)) c.args.deps.now 0 c.from-edges.result
    (edges_in c.args.i (map dep_of c.args.deps.now)) (c.from-edges.ensures ∙ c.in_ok-with_capacity.ensures.items)
    (each-map dep_of (edge_row c.args.i) 0 c.args.deps.now)

pub returns-in_err-edge : goal.returns-in_err-edge
returns-in_err-edge c =
    let p = err_from_is_err_and c.from_residual-in_err-edge.result c.from_residual-in_err-edge.ensures.1 in
    rw (p.1, p.2)
    (ends (λ j value. edge_row c.args.i j (dep_of value)) c.args.deps.now c.edges.j
    c.edges.edges (edges_in c.args.i (map dep_of c.args.deps.now)) c.index-deps-j.result
    c.in_err-edge.field-0.0 c.edges-test.true c.index-deps-j.is c.in_err-edge.ensures c.edges.invariant)

pub edges-preserved : goal.edges-preserved
edges-preserved c =
    rw c.in_ok-push.ensures.ok
    (goes_on (λ j value. edge_row c.args.i j (dep_of value)) c.args.deps.now c.edges.j
    c.edges.edges (edges_in c.args.i (map dep_of c.args.deps.now)) c.index-deps-j.result
    c.in_ok-edge.edge c.edges-test.true c.index-deps-j.is c.in_ok-edge.ensures c.edges.invariant)

pub returns : goal.returns
returns c =
    is_done (λ j value. edge_row c.args.i j (dep_of value)) c.args.deps.now c.edges.j
    c.edges.edges (edges_in c.args.i (map dep_of c.args.deps.now)) c.edges-test.false c.edges.invariant
