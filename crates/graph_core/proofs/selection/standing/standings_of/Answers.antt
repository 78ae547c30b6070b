-- The standing of one crate more.
use Rattle.std.proofs.Common.{List, [], ◌∷◌, ◌++◌, take, ◌∙◌, ap}
use Rattle.graph_core.specs.declared.krate.Krate.{Krate}
use Rattle.graph_core.specs.Krate.{record_of}
use Rattle.graph_core.specs.declared.selection.standing.Standing.{Standing}
use Rattle.graph_core.specs.selection.Choice.{Choice, choice_of}
use Rattle.graph_core.specs.selection.Places.{is_marked, standing_with, standings_in}
use Rattle.graph_core.proofs.selection.StandingLemmas.{standings-more}
use Rattle.graph_core.proofs.selection.standing.standings_of.Goals as goal

pub crates-preserved : goal.crates-preserved
crates-preserved c =
    let graph = c.args.metadata.now in
    let choice : Choice = choice_of c.args.selection.now in
    let place = c.crates.place in
    let krate : Krate = c.index-crates-place.result in
    let members : List _ = c.in_ok-members.members.items in
    let bases : List _ = c.in_ok-bases.bases.items in
    let done : List Standing = take place (standings_in graph choice) in
    c.in_ok-push.ensures.items
    ∙ (ap (λ list. list ++ c.standing_of-standing.result ∷ []) c.crates.invariant
    ∙ (ap (λ s. done ++ s ∷ []) c.standing_of-standing.ensures
    ∙ (ap (λ b. done ++ standing_with choice (record_of krate) b c.is_marked-is_base.result ∷ [])
    (c.is_marked-is_member.ensures ∙ ap (λ marks. is_marked marks place) c.deref.ensures.value)
    ∙ (ap (λ b. done ++ standing_with choice (record_of krate) (is_marked members place) b ∷ [])
    (c.is_marked-is_base.ensures ∙ ap (λ marks. is_marked marks place) c.deref-in-crates.ensures.value)
    ∙ standings-more graph c.crates-crates.ensures.rising choice c.crates-crates.result.now c.crates-crates.ensures.value
    place krate c.crates-test.true c.index-crates-place.is members bases c.in_ok-members.ensures c.in_ok-bases.ensures))))
