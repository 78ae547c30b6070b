-- The walk: it begins at the roots, one place is followed at each turn, and at its end what is marked is what is reached.
use Rattle.std.proofs.Common.{◌≡◌, ◌<◌, [], length, sym, ◌∙◌, ap, subst}
use Rattle.graph_core.specs.Metadata.{Graph}
use Rattle.graph_core.specs.selection.Choice.{Choice, choice_of}
use Rattle.graph_core.specs.selection.Places.{FrontierView, counting_at, nothing_seen, other_kinds, put_roots, frontier_of}
use Rattle.graph_core.proofs.selection.KeepLemmas.{no-items}
use Rattle.graph_core.proofs.selection.PutLemmas.{left_to_do}
use Rattle.graph_core.proofs.selection.RootLemmas.{under-way-started}
use Rattle.graph_core.proofs.selection.TurnLemmas.{below, below-standings, count-standings, counted, followed, less, within-standings}
use Rattle.graph_core.proofs.selection.UnderWay.{IsUnderWay, marks-at-end}
use Rattle.graph_core.proofs.selection.marks.marks_of.Goals as goal

pub walk-init : goal.walk-init
walk-init c =
    let graph : Graph = c.args.metadata.now in
    let choice : Choice = choice_of c.args.selection.now in
    let standings = c.args.standings.now in
    let started : frontier_of c.in_ok-found.found ≡ put_roots 0 standings (nothing_seen (length graph.nodes)) =
    c.in_ok-found.ensures
    ∙ ap (λ n. put_roots 0 standings (nothing_seen n))
    (count-standings graph choice c.args.named c.requires.rising standings c.requires.told) in
    subst (IsUnderWay graph choice c.args.named)
    (sym (started ∙ ap (λ all. put_roots 0 all (nothing_seen (length graph.nodes))) c.requires.told))
    (under-way-started graph choice c.args.named c.requires.rising)

pub standing_at-requires : goal.standing_at-requires
standing_at-requires c =
    below-standings c.args.metadata.now (choice_of c.args.selection.now) c.args.named c.requires.rising c.args.standings.now
    c.requires.told (frontier_of c.walk.found) c.pop.new.self.items c.in-Some.place c.in-Some.ensures.items c.walk.invariant

pub edges_at-requires : goal.edges_at-requires
edges_at-requires c =
    below c.args.metadata.now (choice_of c.args.selection.now) c.args.named c.requires.rising c.args.standings.now
    c.requires.told (frontier_of c.walk.found) c.pop.new.self.items c.in-Some.place c.in-Some.ensures.items c.walk.invariant

pub follow-requires-clause-counted : goal.follow-requires-clause-counted
follow-requires-clause-counted c =
    counted c.args.metadata.now (choice_of c.args.selection.now) c.args.named c.requires.rising c.args.standings.now
    c.requires.told (frontier_of c.walk.found) c.pop.new.self.items c.in-Some.place c.in-Some.ensures.items c.walk.invariant

pub follow-requires-clause-within : goal.follow-requires-clause-within
follow-requires-clause-within c =
    within-standings c.args.metadata.now (choice_of c.args.selection.now) c.args.named c.requires.rising c.args.standings.now
    c.requires.told (frontier_of c.walk.found) c.pop.new.self.items c.in-Some.place c.in-Some.ensures.items c.walk.invariant
    c.edges_at.result.now c.edges_at.ensures.within

pub walk-smaller : goal.walk-smaller
walk-smaller c =
    subst (λ (seen : FrontierView). left_to_do seen < left_to_do (frontier_of c.walk.found)) (sym c.in_ok-follow.ensures)
    (less c.args.metadata.now (choice_of c.args.selection.now) c.args.named c.requires.rising c.args.standings.now
    c.requires.told (frontier_of c.walk.found) c.pop.new.self.items c.in-Some.place c.in-Some.ensures.items c.walk.invariant
    c.edges_at.result.now c.edges_at.ensures.within c.counting_at-counting.result)

pub walk-preserved : goal.walk-preserved
walk-preserved c =
    let graph : Graph = c.args.metadata.now in
    let choice : Choice = choice_of c.args.selection.now in
    let standings = c.args.standings.now in
    subst (IsUnderWay graph choice c.args.named) (sym c.in_ok-follow.ensures)
    (followed graph choice c.args.named c.requires.rising standings c.requires.told (frontier_of c.walk.found)
    c.pop.new.self.items c.in-Some.place c.in-Some.ensures.items c.walk.invariant c.edges_at.result.now
    c.edges_at.ensures.within c.edges_at.ensures.value c.counting_at-counting.result
    (c.counting_at-counting.ensures
    ∙ (ap (λ kinds. counting_at choice.exclude_dev kinds c.standing_at.result) c.other_kinds-kinds.ensures
    ∙ ap (counting_at choice.exclude_dev (other_kinds c.args.named)) c.standing_at.ensures)))

pub returns : goal.returns
returns c =
    let graph : Graph = c.args.metadata.now in
    let choice : Choice = choice_of c.args.selection.now in
    let none : c.walk.found.waiting.items ≡ [] =
    no-items c.walk.found.waiting.items (sym c.walk.found.waiting.ok.0 ∙ c.in_default.ensures.cases.0) in
    marks-at-end graph choice c.args.named c.requires.rising c.walk.found.marks.items
    (subst (λ waiting. IsUnderWay graph choice c.args.named (record { marks = c.walk.found.marks.items; waiting = waiting })) none
    c.walk.invariant)
