-- The crates are those of the nodes.
use Rattle.std.proofs.Common.{◌≡◌, map, sym, ◌∙◌, ap}
use Rattle.graph_core.specs.Krate.{record_of}
use Rattle.graph_core.proofs.GraphLemmas.{krates-nodes}
use Rattle.graph_core.proofs.metadata.Metadata.into_parts.Goals as goal

pub returns-clause-crates : goal.returns-clause-crates
returns-clause-crates c =
    sym (krates-nodes c.self.inside.crates.items c.self.inside.crates.items c.self.inside.edges.items)
    ∙ ap (λ graph. map (λ node. node.krate) graph.nodes) c.self.view_is
