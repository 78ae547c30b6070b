-- One dependency more, the first fault, and the end.
use Rattle.std.proofs.Common.{◌≡◌, ◌∷◌, [], ◌++◌, map, ap}
use Rattle.std.proofs.lemmas.Result.{err_from_is_err_and}
use Rattle.std.proofs.lemmas.List.{map_push}
use Rattle.serde_json.specs.View.{view}
use Rattle.graph_metadata.specs.NodeRows.{node_of, dep_of}
use Rattle.graph_metadata.specs.Nodes.{dep_row, deps_in}
use Rattle.graph_metadata.proofs.EachLemmas.{each-view, starts, goes_on, ends, is_done}
use Rattle.graph_metadata.proofs.nodes.deps_in.Goals as goal

pub deps-init : goal.deps-init
deps-init c =
    starts (λ j value. dep_row c.args.known.now c.args.i j (view value)) c.args.node.now.deps.now 0 (map dep_of c.in_ok-deps.deps.items)
    (deps_in c.args.known.now c.args.i (node_of c.args.node.now))
    (ap (map dep_of) c.in_ok-deps.ensures.items)
    (each-view (λ j value. dep_row c.args.known.now c.args.i j value) c.args.node.now.deps.now)

pub returns-in_err-dep : goal.returns-in_err-dep
returns-in_err-dep c =
    let p = err_from_is_err_and c.from_residual-in_err-dep.result c.from_residual-in_err-dep.ensures.1 in
    rw (p.1, p.2)
    (ends (λ j value. dep_row c.args.known.now c.args.i j (view value)) c.args.node.now.deps.now c.deps.j
    (map dep_of c.deps.deps.items) (deps_in c.args.known.now c.args.i (node_of c.args.node.now)) c.index-items-j.result
    c.in_err-dep.field-0.0 c.deps-test.true c.index-items-j.is c.in_err-dep.ensures c.deps.invariant)

pub deps-preserved : goal.deps-preserved
deps-preserved c =
    let more : map dep_of c.push.new.self.items ≡ map dep_of c.deps.deps.items ++ dep_of c.in_ok-dep.dep ∷ [] =
    rw c.in_ok-push.ensures.items (map_push dep_of c.deps.deps.items c.in_ok-dep.dep) in
    rw more
    (goes_on (λ j value. dep_row c.args.known.now c.args.i j (view value)) c.args.node.now.deps.now c.deps.j
    (map dep_of c.deps.deps.items) (deps_in c.args.known.now c.args.i (node_of c.args.node.now)) c.index-items-j.result
    (dep_of c.in_ok-dep.dep) c.deps-test.true c.index-items-j.is c.in_ok-dep.ensures c.deps.invariant)

pub returns : goal.returns
returns c =
    is_done (λ j value. dep_row c.args.known.now c.args.i j (view value)) c.args.node.now.deps.now c.deps.j
    (map dep_of c.deps.deps.items) (deps_in c.args.known.now c.args.i (node_of c.args.node.now)) c.deps-test.false c.deps.invariant
