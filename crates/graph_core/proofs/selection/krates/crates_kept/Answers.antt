-- One crate more, and the end.
use Rattle.std.proofs.Common.{◌≡◌, [], ◌∷◌, ◌++◌, sym, ◌∙◌, ap, inl, inr, append-nil}
use Rattle.std.specs.Iterator.Adapters.{zip_first, zip_second}
use Rattle.std.specs.Slice.Iter.{iter_rest}
use Rattle.std.specs.Vec.Iter.{into_iter_items}
use Rattle.graph_core.specs.selection.Places.{marked_items}
use Rattle.graph_core.proofs.selection.KeepLemmas.{kept-end, kept-next, no-items}
use Rattle.graph_core.proofs.selection.krates.crates_kept.Goals as goal

pub crates-preserved : goal.crates-preserved
crates-preserved c =
    let done = c.crates.left.items in
    let crates = into_iter_items (zip_first c.next.new.self) in
    let marks = iter_rest (zip_second c.next.new.self) in
    let steps = c.in-Some.ensures.steps in
    ap (λ list. list ++ marked_items crates marks) c.in_ok-put.ensures
    ∙ (kept-next done c.in-Some.krate crates c.in-Some.mark.now marks
    ∙ (ap (λ list. done ++ marked_items list (c.in-Some.mark.now ∷ marks)) (sym steps.0.0)
    ∙ (ap (λ list. done ++ marked_items (into_iter_items (zip_first c.crates.krate-iterator)) list) (sym steps.1)
    ∙ c.crates.invariant)))

pub returns : goal.returns
returns c =
    let done = c.crates.left.items in
    let crates = into_iter_items (zip_first c.crates.krate-iterator) in
    let marks = iter_rest (zip_second c.crates.krate-iterator) in
    let none : marked_items crates marks ≡ [] =
    kept-end crates marks (elim c.in-None.ensures.steps [
      | inl w ↦ inl (no-items crates (sym c.crates.krate-iterator.a.rest.ok.0 ∙ w.1.0))
      | inr w ↦ inr (no-items marks w.1.0)
    ]) in
    sym (append-nil done) ∙ (ap (λ list. done ++ list) (sym none) ∙ c.crates.invariant)
