-- The answers so far, and those of the terms that are left, are all.
use Rattle.std.proofs.Common.{◌≡◌, ◌++◌}
use Rattle.std.specs.Iterator.Adapters.{zip_first, zip_second}
use Rattle.std.specs.Slice.Iter.{iter_rest}
use Rattle.check_why.specs.Place.{term_answers}
use Rattle.check_why.proofs.places.term_answers.Given as goal

abbrev pub invariant-terms : goal.invariant-terms
invariant-terms l =
    l.answers ++ term_answers l.files l.policy (iter_rest (zip_first l.term-iterator)) (iter_rest (zip_second l.term-iterator))
    ≡ term_answers l.files l.policy l.terms l.hits
