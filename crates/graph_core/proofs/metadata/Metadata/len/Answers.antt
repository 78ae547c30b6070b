-- As many as crates are in the list.
use Rattle.std.proofs.Common.{◌≡◌, length, sym, subst, ◌∙◌}
use Rattle.graph_core.proofs.GraphLemmas.{length-nodes}
use Rattle.graph_core.proofs.metadata.Metadata.len.Goals as goal

pub returns : goal.returns
returns c =
    subst (λ graph. c.len.result ≡ length graph.nodes) c.self.view_is
    (c.len.ensures
    ∙ (c.self.inside.crates.ok.0
    ∙ sym (length-nodes c.self.inside.crates.items c.self.inside.crates.items c.self.inside.edges.items)))
