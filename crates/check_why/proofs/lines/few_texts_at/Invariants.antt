use Rattle.std.proofs.Common.{◌≡◌, [], fold, take}
use Rattle.check_why.specs.Lines.{with_term}
use Rattle.check_why.proofs.lines.few_texts_at.Given as goal

-- the texts of the terms so far, each once
abbrev pub invariant-places : goal.invariant-places
invariant-places l = l.texts ≡ fold (with_term l.terms) [] (take l.place-index l.places)
