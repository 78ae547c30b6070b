-- The search begins at the roots, each turn follows the edges out of one crate, and at its end all walks are the shortest.
use Rattle.std.proofs.Common.{◌≡◌, ◌<◌, ◌≤◌, ℕ, [], length, sym, ◌∙◌, ap, subst, arith}
use Rattle.graph_core.specs.declared.edge.Kinds.{Kinds}
use Rattle.graph_core.specs.Metadata.{Graph}
use Rattle.graph_core.specs.selection.Choice.{Choice, choice_of}
use Rattle.graph_core.specs.selection.Places.{other_kinds, standings_in}
use Rattle.graph_walk.specs.Search.{IsFollowed, SearchView, nothing_found, put_all, roots_from}
use Rattle.graph_walk.proofs.LeastLemmas.{are-shortest}
use Rattle.graph_walk.proofs.TurnLemmas.{IsUnderWay, count-standings, under-way-next, under-way-started}
use Rattle.graph_walk.proofs.UnderWay.{walk_found}
use Rattle.graph_walk.proofs.walks.shortest_walks.Goals as goal

pub walks-init : goal.walks-init
walks-init c =
    let graph : Graph = c.args.metadata.now in
    let choice : Choice = choice_of c.args.selection.now in
    let rising = c.in_ok-standings.ensures.rising in
    let standings : c.deref.result.now ≡ standings_in graph choice = c.deref.ensures.value ∙ c.in_ok-standings.ensures.value in
    let started : c.in_ok-search.search ≡ put_all [] (roots_from 0 (standings_in graph choice)) (nothing_found (length graph.nodes)) =
    c.in_ok-search.ensures
    ∙ (ap (λ all. put_all [] (roots_from 0 all) (nothing_found (length all))) standings
    ∙ ap (λ n. put_all [] (roots_from 0 (standings_in graph choice)) (nothing_found n)) (count-standings graph choice c.args.named rising)) in
    subst (IsUnderWay graph choice c.args.named 0) (sym started) (under-way-started graph choice c.args.named rising)

pub walks-preserved : goal.walks-preserved
walks-preserved c =
    let graph : Graph = c.args.metadata.now in
    let choice : Choice = choice_of c.args.selection.now in
    let named = c.args.named in
    let rising = c.in_ok-standings.ensures.rising in
    let next : ℕ = c.walks.next in
    let seen : SearchView = c.walks.search in
    let after : SearchView = c.follow.new.search in
    let standings : c.deref-in-walks.result.now ≡ standings_in graph choice =
    c.deref-in-walks.ensures.value ∙ c.in_ok-standings.ensures.value in
    let followed : IsFollowed graph choice.exclude_dev (standings_in graph choice) (other_kinds named) (walk_found seen.order next) seen after =
    subst (λ all. IsFollowed graph choice.exclude_dev all (other_kinds named) (walk_found seen.order next) seen after) standings
    (subst (λ (kinds : Kinds). IsFollowed graph choice.exclude_dev c.deref-in-walks.result.now kinds (walk_found seen.order next) seen after)
    c.other_kinds-kinds.ensures c.in_ok-follow.ensures) in
    let counted : c.len.result ≡ length seen.order = c.len.ensures in
    let more : next < length seen.order = omega (arith, c.walks-test.true) in
    under-way-next graph choice named rising next seen after c.walks.invariant more followed

pub returns : goal.returns
returns c =
    let graph : Graph = c.args.metadata.now in
    let choice : Choice = choice_of c.args.selection.now in
    let named = c.args.named in
    let seen : SearchView = c.walks.search in
    let most : c.walks.next ≤ length seen.order = c.walks.invariant.so_far in
    let counted : c.len.result ≡ length seen.order = c.len.ensures in
    let same : c.walks.next ≡ length seen.order = omega (arith, c.walks-test.false) in
    are-shortest graph choice named c.in_ok-standings.ensures.rising seen
    (subst (λ n. IsUnderWay graph choice named n seen) same c.walks.invariant)
