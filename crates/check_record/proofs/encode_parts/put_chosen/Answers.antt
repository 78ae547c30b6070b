use Rattle.std.proofs.Common.{◌≡◌, ◌∙◌, ◌++◌, sym, ap, append-nil, inl, inr, List, [], ℕ}
use Rattle.std.specs.Iterator.Adapters.{zip_first, zip_second}
use Rattle.std.specs.Slice.Iter.{iter_rest}
use Rattle.check_record.specs.Spelling.{chosen_text}
use Rattle.check_record.proofs.Loops.{no_hits_left, no_places_left}
use Rattle.check_record.proofs.encode_parts.put_chosen.Goals as goal

pub returns-clause-ok : goal.returns-clause-ok
returns-clause-ok c =
    let done = c.terms.out.items in
    let places = iter_rest (zip_first c.terms.place-iterator) in
    let hits = iter_rest (zip_second c.terms.place-iterator) in
    let none : chosen_text places hits ≡ [] = elim c.in-None.ensures.steps [
      | inl w ↦ no_places_left places hits w.1.0
      | inr w ↦ no_hits_left places hits w.1.0
    ] in
    sym (append-nil done) ∙ (ap (λ (text : List ℕ). done ++ text) (sym none) ∙ c.terms.invariant.0)
