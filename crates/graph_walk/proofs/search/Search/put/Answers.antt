-- One more is found, where it was not found before.
use Rattle.std.proofs.Common.{◌≡◌, ◌<◌, ℕ, List, [], ◌∷◌, ◌++◌, length, slice_set, slice_index_or, IfSome, Option, Some, None, not, sym, ◌∙◌, ap, subst}
use Rattle.std.proofs.lemmas.List.{length-map}
use Rattle.graph_walk.specs.declared.search.Found.{Found}
use Rattle.graph_walk.specs.Search.{AreFound, SearchView, found_walk, order_of, put, search_of, walk_behind}
use Rattle.graph_walk.proofs.FoundLemmas.{found-more, length-order, none-is, search-more}
use Rattle.graph_walk.proofs.search.Search.put.Goals as goal

pub invariant_of-self-then-is_none : goal.invariant_of-self-then-is_none
invariant_of-self-then-is_none c =
    let found : List Found = c.self.inside.found.items in
    let index : List (Option ℕ) = c.self.inside.index.items in
    let place = c.args.place in
    let by = c.args.by in
    let one : Found = record { place = place; by = by } in
    let number : c.len-at.result ≡ length found = c.len-at.ensures ∙ c.self.inside.found.ok.0 in
    let many : length c.args.self.now.order ≡ length found =
    sym (ap (λ (s : SearchView). length s.order) c.self.view_is) ∙ length-order found in
    let earlier : IfSome by (λ k. k < length found) = subst (λ n. IfSome by (λ k. k < n)) many c.requires.earlier in
    subst (λ (all : List Found). AreFound all (slice_set index place (Some c.len-at.result))) (sym c.in_ok-push.ensures.items)
    (subst (λ n. AreFound (found ++ one ∷ []) (slice_set index place (Some n))) (sym number)
    (found-more found index place by c.self.invariant earlier))

pub returns-in_ok-push : goal.returns-in_ok-push
returns-in_ok-push c =
    let found : List Found = c.self.inside.found.items in
    let index : List (Option ℕ) = c.self.inside.index.items in
    let place = c.args.place in
    let by = c.args.by in
    let one : Found = record { place = place; by = by } in
    let number : c.len-at.result ≡ length found = c.len-at.ensures ∙ c.self.inside.found.ok.0 in
    let counted : length c.args.self.now.best ≡ length index =
    sym (ap (λ (s : SearchView). length s.best) c.self.view_is) ∙ length-map index (found_walk (order_of found)) in
    let below : place < length index = subst (λ n. place < n) counted c.requires.within in
    let none : c.index.result.now ≡ None = none-is c.index.result.now (c.is_none.ensures ∙ ap not c.if-is_none.true) in
    let free : slice_index_or index place None ≡ None =
    ap (slice_index_or index place) (sym none) ∙ (sym c.index.ensures ∙ none) in
    ap (λ (all : List Found). search_of all (slice_set index place (Some c.len-at.result))) c.in_ok-push.ensures.items
    ∙ (ap (λ n. search_of (found ++ one ∷ []) (slice_set index place (Some n))) number
    ∙ (search-more found index place by c.self.invariant below free
    ∙ ap (λ (s : SearchView). put place (walk_behind s.order by) s) c.self.view_is))
