-- There is a walk for each that was found.
use Rattle.std.proofs.Common.{length, sym, ◌∙◌, ap}
use Rattle.graph_walk.specs.Search.{SearchView}
use Rattle.graph_walk.proofs.FoundLemmas.{length-order}
use Rattle.graph_walk.proofs.search.Search.len.Goals as goal

pub returns : goal.returns
returns c =
    c.len.ensures
    ∙ (c.self.inside.found.ok.0
    ∙ (sym (length-order c.self.inside.found.items) ∙ ap (λ (s : SearchView). length s.order) c.self.view_is))
