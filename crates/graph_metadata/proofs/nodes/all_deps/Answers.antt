-- One node more, the first fault, and the end.
use Rattle.std.proofs.Common.{◌≡◌, ◌∷◌, [], ◌++◌, map, ap}
use Rattle.std.proofs.lemmas.Result.{err_from_is_err_and}
use Rattle.std.proofs.lemmas.List.{map_push}
use Rattle.graph_metadata.specs.NodeRows.{node_of, deps_of}
use Rattle.graph_metadata.specs.Nodes.{deps_in, all_deps}
use Rattle.graph_metadata.proofs.EachLemmas.{each-map, starts, goes_on, ends, is_done}
use Rattle.graph_metadata.proofs.nodes.all_deps.Goals as goal

pub lists-init : goal.lists-init
lists-init c =
    starts (λ j value. deps_in c.args.known.now j (node_of value)) c.args.nodes.now 0 (map deps_of c.in_ok-lists.lists.items)
    (all_deps c.args.known.now (map node_of c.args.nodes.now))
    (ap (map deps_of) c.in_ok-lists.ensures.items)
    (each-map node_of (λ j value. deps_in c.args.known.now j value) 0 c.args.nodes.now)

pub returns-in_err-deps : goal.returns-in_err-deps
returns-in_err-deps c =
    let p = err_from_is_err_and c.from_residual-in_err-deps.result c.from_residual-in_err-deps.ensures.1 in
    rw (p.1, p.2)
    (ends (λ j value. deps_in c.args.known.now j (node_of value)) c.args.nodes.now c.lists.i
    (map deps_of c.lists.lists.items) (all_deps c.args.known.now (map node_of c.args.nodes.now)) c.index-nodes-i.result
    c.in_err-deps.field-0.0 c.lists-test.true c.index-nodes-i.is c.in_err-deps.ensures c.lists.invariant)

pub lists-preserved : goal.lists-preserved
lists-preserved c =
    let more : map deps_of c.push.new.self.items ≡ map deps_of c.lists.lists.items ++ deps_of c.in_ok-deps.deps ∷ [] =
    rw c.in_ok-push.ensures.items (map_push deps_of c.lists.lists.items c.in_ok-deps.deps) in
    rw more
    (goes_on (λ j value. deps_in c.args.known.now j (node_of value)) c.args.nodes.now c.lists.i
    (map deps_of c.lists.lists.items) (all_deps c.args.known.now (map node_of c.args.nodes.now)) c.index-nodes-i.result
    (deps_of c.in_ok-deps.deps) c.lists-test.true c.index-nodes-i.is c.in_ok-deps.ensures c.lists.invariant)

pub returns : goal.returns
returns c =
    is_done (λ j value. deps_in c.args.known.now j (node_of value)) c.args.nodes.now c.lists.i
    (map deps_of c.lists.lists.items) (all_deps c.args.known.now (map node_of c.args.nodes.now)) c.lists-test.false c.lists.invariant
