-- The crates are those of the nodes.
use Rattle.std.proofs.Common.{◌≡◌, map, subst, sym, ◌∙◌, ap}
use Rattle.graph_core.specs.Krate.{record_of}
use Rattle.graph_core.specs.Metadata.{AreRising, ids_of}
use Rattle.graph_core.proofs.GraphLemmas.{krates-nodes, made-rising}
use Rattle.graph_core.proofs.metadata.Metadata.crates.Goals as goal

pub returns-clause-value : goal.returns-clause-value
returns-clause-value c =
    ap (map record_of) c.deref.ensures.value
    ∙ (sym (krates-nodes c.self.inside.crates.items c.self.inside.crates.items c.self.inside.edges.items)
    ∙ ap (λ graph. map (λ node. node.krate) graph.nodes) c.self.view_is)

pub returns-clause-rising : goal.returns-clause-rising
returns-clause-rising c =
    subst (λ graph. AreRising (ids_of graph)) c.self.view_is
    (made-rising c.self.inside.crates.items c.self.inside.edges.items c.self.inside.members c.self.inside.workspace_root c.self.inside.root c.self.invariant.rising)
