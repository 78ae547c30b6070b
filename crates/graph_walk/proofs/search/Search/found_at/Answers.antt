-- What leads to it was found before it.
use Rattle.std.proofs.Common.{◌≡◌, ◌<◌, ℕ, List, [], length, slice_index_or, IfSome, sym, ◌∙◌, ap, subst}
use Rattle.graph_walk.specs.declared.search.Found.{Found}
use Rattle.graph_walk.specs.Search.{SearchView, order_of, walk_of}
use Rattle.graph_walk.proofs.FoundLemmas.{length-order, order-at}
use Rattle.graph_walk.proofs.search.Search.found_at.Goals as goal

pub index-requires : goal.index-requires
index-requires c =
    let many : length c.args.self.now.order ≡ length c.self.inside.found.items =
    sym (ap (λ (s : SearchView). length s.order) c.self.view_is) ∙ length-order c.self.inside.found.items in
    subst (λ n. c.args.at < n) (sym c.self.inside.found.ok.0) (subst (λ n. c.args.at < n) many c.requires)

pub returns-clause-value : goal.returns-clause-value
returns-clause-value c =
    let found : List Found = c.self.inside.found.items in
    let one : Found = c.index.result.now in
    let order : order_of found ≡ c.args.self.now.order = ap (λ (s : SearchView). s.order) c.self.view_is in
    let many : length c.args.self.now.order ≡ length found = sym (ap (λ (walks : List (List ℕ)). length walks) order) ∙ length-order found in
    let below : c.args.at < length found = subst (λ n. c.args.at < n) many c.requires in
    let earlier : IfSome (slice_index_or found c.args.at one).by (λ by. by < c.args.at) = c.self.invariant.earlier c.args.at one below in
    ap (λ (walks : List (List ℕ)). slice_index_or walks c.args.at []) (sym order)
    ∙ (order-at found c.args.at one below earlier
    ∙ (ap (λ (f : Found). walk_of (order_of found) f) (sym c.index.ensures)
    ∙ ap (λ (walks : List (List ℕ)). walk_of walks one) order))

pub returns-clause-earlier : goal.returns-clause-earlier
returns-clause-earlier c =
    let found : List Found = c.self.inside.found.items in
    let one : Found = c.index.result.now in
    let many : length c.args.self.now.order ≡ length found =
    sym (ap (λ (s : SearchView). length s.order) c.self.view_is) ∙ length-order found in
    let below : c.args.at < length found = subst (λ n. c.args.at < n) many c.requires in
    subst (λ (f : Found). IfSome f.by (λ by. by < c.args.at)) (sym c.index.ensures) (c.self.invariant.earlier c.args.at one below)
