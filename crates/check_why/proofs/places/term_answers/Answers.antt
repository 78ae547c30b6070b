use Rattle.std.proofs.Common.{◌≡◌, ◌∙◌, ◌++◌, sym, ap, append-nil, inl, inr, List, []}
use Rattle.std.specs.Iterator.Adapters.{zip_first, zip_second}
use Rattle.std.specs.Slice.Iter.{iter_rest}
use Rattle.check_why.specs.declared.answer.TermAnswer.{TermAnswer}
use Rattle.check_why.specs.Place.{term_answers}
use Rattle.check_why.proofs.PlaceLemmas.{no_hits_left, no_terms_left}
use Rattle.check_why.proofs.places.term_answers.Goals as goal

pub returns : goal.returns
returns c =
    let files = c.args.files.now in
    let policy = c.args.policy.now in
    let terms = iter_rest (zip_first c.terms.term-iterator) in
    let hits = iter_rest (zip_second c.terms.term-iterator) in
    let none : term_answers files policy terms hits ≡ [] = elim c.in-None.ensures.steps [
      | inl w ↦ no_terms_left files policy terms hits w.1.0
      | inr w ↦ no_hits_left files policy terms hits w.1.0
    ] in
    sym (append-nil c.terms.answers) ∙ (ap (λ (answers : List TermAnswer). c.terms.answers ++ answers) (sym none) ∙ c.terms.invariant)
