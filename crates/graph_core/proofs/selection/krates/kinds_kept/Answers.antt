-- The kinds of one place more.
use Rattle.std.proofs.Common.{ℕ, ◌+◌, Bool, false, List, ◌++◌, drop, get_or, sym, ◌∙◌, ap}
use Rattle.std.proofs.lemmas.List.{at_drop_more}
use Rattle.graph_core.specs.declared.edge.Kinds.{Kinds}
use Rattle.graph_core.specs.selection.Places.{items_with, kinds_kept}
use Rattle.graph_core.proofs.selection.KeepLemmas.{kinds-next}
use Rattle.graph_core.proofs.selection.krates.kinds_kept.Goals as goal

pub places-preserved : goal.places-preserved
places-preserved c =
    let without = c.args.without.now in
    let marks = c.args.marks.now in
    let place = c.places.place in
    let done = c.places.kinds.items in
    let from : ℕ → List Bool → List Kinds = kinds_kept without.normal.items without.dev.items without.build.items in
    let mark : Bool = get_or marks place false in
    let rest : List Bool = drop (place + 1) marks in
    ap (λ kinds. kinds ++ from (place + 1) rest) c.in_ok-put.ensures
    ∙ (ap (λ kinds. items_with done kinds mark ++ from (place + 1) rest) c.kinds_at.ensures
    ∙ (kinds-next without.normal.items without.dev.items without.build.items done place mark rest
    ∙ (sym (ap (λ list. done ++ list) (at_drop_more (from place) marks place false c.places-test.true))
    ∙ c.places.invariant)))
