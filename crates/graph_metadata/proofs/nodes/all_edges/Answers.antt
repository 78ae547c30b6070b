-- One node more, the first fault, and the end.
use Rattle.std.proofs.Common.{◌≡◌, Ok, map, subst}
use Rattle.std.proofs.lemmas.Result.{err_from_is_err_and}
use Rattle.graph_metadata.specs.NodeRows.{dep_of, deps_of}
use Rattle.graph_metadata.specs.Nodes.{edges_in, all_edges}
use Rattle.graph_metadata.specs.Told.{Fails}
use Rattle.graph_metadata.proofs.EachLemmas.{each-map, starts, goes_on, ends, is_done}
use Rattle.graph_metadata.proofs.nodes.all_edges.Goals as goal

pub lists-init : goal.lists-init
lists-init c =
    starts (λ j value. edges_in j (deps_of value)) c.args.lists.now 0 c.in_ok-all.all.items
    (all_edges (map deps_of c.args.lists.now)) c.in_ok-all.ensures.items
    (each-map deps_of edges_in 0 c.args.lists.now)

pub returns-in_err-edges : goal.returns-in_err-edges
returns-in_err-edges c =
    let p = err_from_is_err_and c.from_residual-in_err-edges.result c.from_residual-in_err-edges.ensures.1 in
    rw (p.1, p.2)
    (ends (λ j value. edges_in j (deps_of value)) c.args.lists.now c.lists.i
    c.lists.all.items (all_edges (map deps_of c.args.lists.now)) c.index-lists-i.result
    c.in_err-edges.field-0.0 c.lists-test.true c.index-lists-i.is
    (subst (λ deps. Fails c.in_err-edges.field-0.0 (edges_in c.lists.i (map dep_of deps))) c.deref.ensures.value c.in_err-edges.ensures)
    c.lists.invariant)

pub lists-preserved : goal.lists-preserved
lists-preserved c =
    rw c.in_ok-push.ensures.items
    (goes_on (λ j value. edges_in j (deps_of value)) c.args.lists.now c.lists.i
    c.lists.all.items (all_edges (map deps_of c.args.lists.now)) c.index-lists-i.result
    c.in_ok-edges.edges c.lists-test.true c.index-lists-i.is
    (subst (λ deps. edges_in c.lists.i (map dep_of deps) ≡ Ok c.in_ok-edges.edges) c.deref.ensures.value c.in_ok-edges.ensures)
    c.lists.invariant)

pub returns : goal.returns
returns c =
    is_done (λ j value. edges_in j (deps_of value)) c.args.lists.now c.lists.i
    c.lists.all.items (all_edges (map deps_of c.args.lists.now)) c.lists-test.false c.lists.invariant
