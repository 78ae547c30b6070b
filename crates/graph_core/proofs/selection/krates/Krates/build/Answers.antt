-- A root is needed, and what four walks leave.
use Rattle.std.proofs.Common.{◌≡◌, sym, ◌∙◌, ap}
use Rattle.std.proofs.lemmas.Result.{err_from_is_err_and}
use Rattle.graph_core.specs.Metadata.{Graph}
use Rattle.graph_core.specs.selection.Choice.{Choice, choice_of}
use Rattle.graph_core.specs.selection.Places.{marked_items, kinds_kept}
use Rattle.graph_core.proofs.selection.ChosenLemmas.{chosen-is}
use Rattle.graph_core.proofs.selection.CountLemmas.{needed-err, needed-ok}
use Rattle.graph_core.proofs.selection.krates.Krates.build.Goals as goal

pub returns-in_err-need_root-clause-cause : goal.returns-in_err-need_root-clause-cause
returns-in_err-need_root-clause-cause c =
    let p = err_from_is_err_and c.from_residual-in_err-need_root.result c.from_residual-in_err-need_root.ensures.1 in
    rw (p.1, p.2) (needed-err c.args.metadata (choice_of c.args.selection.now) c.in_ok-standings.ensures.rising
    c.deref.result.now (c.deref.ensures.value ∙ c.in_ok-standings.ensures.value) c.in_err-need_root.field-0.0
    (sym c.need_root.ensures ∙ c.in_err-need_root.was))

pub returns-clause-chosen : goal.returns-clause-chosen
returns-clause-chosen c =
    let graph : Graph = c.args.metadata in
    let choice : Choice = choice_of c.args.selection.now in
    let parts = c.into_parts-parts.result in
    let without = c.in_ok-without.without in
    let marks = c.in_ok-marks.marks.items in
    let e_crates : c.in_ok-crates.crates.items ≡ marked_items parts.crates.items marks =
    c.in_ok-crates.ensures ∙ ap (marked_items parts.crates.items) c.deref-5.ensures.value in
    let e_kinds : c.in_ok-kinds.kinds.items ≡ kinds_kept without.normal.items without.dev.items without.build.items 0 marks =
    c.in_ok-kinds.ensures
    ∙ ap (kinds_kept without.normal.items without.dev.items without.build.items 0) c.deref-4.ensures.value in
    let e_members : parts.members ≡ graph.members = c.into_parts-parts.ensures.members in
    let e_root : parts.workspace_root ≡ graph.workspace_root = c.into_parts-parts.ensures.workspace_root in
    rw (e_crates, e_kinds, e_members, e_root)
    (chosen-is graph choice c.in_ok-standings.ensures.rising marks without.normal.items without.dev.items without.build.items
    c.in_ok-marks.ensures c.in_ok-without.ensures parts.crates.items c.into_parts-parts.ensures.crates)

pub returns-clause-rooted : goal.returns-clause-rooted
returns-clause-rooted c =
    needed-ok c.args.metadata (choice_of c.args.selection.now) c.in_ok-standings.ensures.rising
    c.deref.result.now (c.deref.ensures.value ∙ c.in_ok-standings.ensures.value)
    (sym c.need_root.ensures ∙ c.in_ok-need_root.was)
