-- The list is that of the selected.
use Rattle.std.proofs.Common.{◌≡◌, List, filter, map, subst, sym, ◌∙◌, ap}
use Rattle.std.proofs.lemmas.Result.{IfOk-weaker}
use Rattle.graph_core.specs.declared.edge.Kinds.{Kinds}
use Rattle.graph_core.specs.declared.krate.Krate.{Krate}
use Rattle.graph_core.specs.Krate.{CrateRecord}
use Rattle.graph_core.specs.selection.Listed.{IsListOf, ReachedCrate, crates_in, is_selected, listed_crates, record_behind, selected_in}
use Rattle.graph_core.specs.selection.Places.{covers}
use Rattle.graph_core.specs.selection.Walks.{Selected}
use Rattle.graph_core.proofs.selection.SelectedLemmas.{covered-are, selected-lists}
use Rattle.graph_core.proofs.selection.krates.Krates.selected.Goals as goal

abbrev covering : Kinds → List Krate → List Kinds → List CrateRecord
covering needed crates without = crates_in (filter (λ (item : ReachedCrate). covers needed item.without) (listed_crates crates without))

pub returns-clause-listed : goal.returns-clause-listed
returns-clause-listed c = λ graph choice chosen.
    let include = c.args.include in
    let crates = c.deref.result.now in
    let without = c.deref-2.result.now in
    let same : covering c.left_out.result crates without ≡ selected_in include c.args.self.now =
    ap (λ needed. covering needed crates without) c.left_out.ensures
    ∙ (covered-are include (listed_crates crates without)
    ∙ (ap (λ list. crates_in (filter (λ (item : ReachedCrate). is_selected include item.without) (listed_crates list without))) c.deref.ensures.value
    ∙ (ap (λ list. crates_in (filter (λ (item : ReachedCrate). is_selected include item.without) (listed_crates c.self.inside.crates.items list))) c.deref-2.ensures.value
    ∙ ap (selected_in include) c.self.view_is))) in
    IfOk-weaker c.refs_covering.result (λ refs. map record_behind refs ≡ covering c.left_out.result crates without)
    (λ refs. IsListOf graph (Selected graph choice include) (map record_behind refs))
    (λ refs is. subst (IsListOf graph (Selected graph choice include)) (sym (is ∙ same))
    (selected-lists graph choice c.args.self.now chosen include))
    c.refs_covering.ensures
