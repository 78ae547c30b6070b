-- There is an answer for each crate.
use Rattle.std.proofs.Common.{ℕ, List, Option, length, sym, ◌∙◌, ap, option_map, reverse}
use Rattle.std.proofs.lemmas.List.{length-map}
use Rattle.graph_walk.proofs.walks.ShortestWalks.len.Goals as goal

pub returns : goal.returns
returns c =
    c.count.ensures
    ∙ (sym (length-map c.self.inside.search.best (option_map reverse)) ∙ ap (λ (walks : List (Option (List ℕ))). length walks) c.self.view_is)
