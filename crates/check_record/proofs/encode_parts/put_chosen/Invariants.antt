use Rattle.std.proofs.Common.{◌≡◌, ◌++◌}
use Rattle.std.specs.Iterator.Adapters.{zip_first, zip_second}
use Rattle.std.specs.Slice.Iter.{iter_rest}
use Rattle.deny_text.specs.Fronts.{StandsInFront}
use Rattle.check_record.specs.Spelling.{chosen_text}
use Rattle.check_record.proofs.encode_parts.put_chosen.Given as goal

-- what was written, with the places that are left, is all; what was there stays in front
abbrev pub invariant-terms : goal.invariant-terms
invariant-terms l =
    (l.out.items ++ chosen_text (iter_rest (zip_first l.place-iterator)) (iter_rest (zip_second l.place-iterator)) ≡ l.fn.out.items ++ chosen_text l.choice l.hits)
    × StandsInFront l.fn.out.items l.out.items
