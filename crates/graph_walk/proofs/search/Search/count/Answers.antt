-- Each crate has its place in the index.
use Rattle.std.proofs.Common.{length, sym, ◌∙◌, ap}
use Rattle.std.proofs.lemmas.List.{length-map}
use Rattle.graph_walk.specs.Search.{SearchView, found_walk, order_of}
use Rattle.graph_walk.proofs.search.Search.count.Goals as goal

pub returns : goal.returns
returns c =
    c.len.ensures
    ∙ (c.self.inside.index.ok.0
    ∙ (sym (length-map c.self.inside.index.items (found_walk (order_of c.self.inside.found.items))) ∙ ap (λ (s : SearchView). length s.best) c.self.view_is))
