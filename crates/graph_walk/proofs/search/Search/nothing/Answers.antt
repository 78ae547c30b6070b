-- No walk is found.
use Rattle.std.proofs.Common.{rules, ◌≡◌, List, [], None, replicate, ◌∙◌, ap}
use Rattle.graph_walk.specs.declared.search.Found.{Found}
use Rattle.graph_walk.specs.Search.{search_of}
use Rattle.graph_walk.proofs.FoundLemmas.{nothing-search}
use Rattle.graph_walk.proofs.search.Search.nothing.Goals as goal

pub returns : goal.returns
returns c =
    let index : c.in_ok-index.index.items ≡ replicate c.args.count None = search rules in
    ap (λ (found : List Found). search_of found c.in_ok-index.index.items) c.new.ensures.items
    ∙ (ap (search_of []) index ∙ nothing-search c.args.count)
