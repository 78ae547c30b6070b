-- The index leads to what was found.
use Rattle.std.proofs.Common.{◌≡◌, ◌<◌, ℕ, List, Option, length, IfSome, sym, ◌∙◌, ap, subst}
use Rattle.std.proofs.lemmas.List.{length-map}
use Rattle.graph_walk.specs.declared.search.Found.{Found}
use Rattle.graph_walk.specs.Search.{SearchView, found_walk, order_of}
use Rattle.graph_walk.proofs.FoundLemmas.{length-order}
use Rattle.graph_walk.proofs.search.Search.index_at.Goals as goal

pub returns-clause-within : goal.returns-clause-within
returns-clause-within c =
    let found : List Found = c.self.inside.found.items in
    let index : List (Option ℕ) = c.self.inside.index.items in
    let which : Option ℕ = c.index.result.now in
    let counted : length c.args.self.now.best ≡ length index =
    sym (ap (λ (s : SearchView). length s.best) c.self.view_is) ∙ length-map index (found_walk (order_of found)) in
    let below : c.args.place < length index = subst (λ n. c.args.place < n) counted c.requires in
    let many : length found ≡ length c.args.self.now.order =
    sym (length-order found) ∙ ap (λ (s : SearchView). length s.order) c.self.view_is in
    subst (λ n. IfSome which (λ k. k < n)) many
    (subst (λ (o : Option ℕ). IfSome o (λ k. k < length found)) (sym c.index.ensures) (c.self.invariant.within c.args.place which below))
