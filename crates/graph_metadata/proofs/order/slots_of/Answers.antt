-- No crate is left.
use Rattle.std.proofs.Common.{◌≡◌, ◌++◌, map, Some, List, [], ◌∷◌, length, refl, sym, ap, ◌∙◌, append-nil, arith}
use Rattle.std.specs.Vec.Iter.{into_iter_items}
use Rattle.graph_metadata.proofs.order.slots_of.Goals as goal

no_items : {A : Type 0} (xs : List A) → length xs ≡ 0 → xs ≡ []
no_items [] e = refl
no_items (x ∷ xs) e = absurd (omega arith)

pub returns : goal.returns
returns c =
    sym (append-nil c.crates.slots.items)
    ∙ (ap (λ left. c.crates.slots.items ++ map Some left)
    (sym (no_items (into_iter_items c.crates.krate-iterator) (sym c.crates.krate-iterator.rest.ok.0 ∙ c.in-None.ensures.steps.0)))
    ∙ c.crates.invariant)
