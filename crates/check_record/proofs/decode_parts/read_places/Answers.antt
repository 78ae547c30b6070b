use Rattle.std.proofs.Common.{◌∙◌, sym, subst, List, [], ℕ, length}
use Rattle.check_record.specs.Reading.{Misses, number_at, places_on}
use Rattle.check_record.proofs.Loops.{places_fail}
use Rattle.check_record.proofs.decode_parts.read_places.Goals as goal

pub returns-in-Err : goal.returns-in-Err
returns-in-Err c =
    let bytes = c.args.bytes.now in
    places_fail c.in-Err.error c.terms.places c.terms.rest.now (places_on (length bytes) [] bytes) (sym c.begins.ensures.answer ∙ c.terms-test.true)
    (subst (λ (left : List ℕ). Misses c.in-Err.error (number_at left)) c.behind_first.ensures c.in-Err.ensures) c.terms.invariant
