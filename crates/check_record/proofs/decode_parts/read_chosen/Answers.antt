use Rattle.std.proofs.Common.{◌∙◌, sym, subst, List, [], ℕ, length}
use Rattle.check_record.specs.Reading.{Misses, chosen_on, place_hit_at}
use Rattle.check_record.proofs.Loops.{chosen_fails}
use Rattle.check_record.proofs.decode_parts.read_chosen.Goals as goal

pub returns-in-Err : goal.returns-in-Err
returns-in-Err c =
    let bytes = c.args.bytes.now in
    chosen_fails c.in-Err.error c.terms.choice c.terms.hits c.terms.rest.now (chosen_on (length bytes) [] [] bytes) (sym c.begins.ensures.answer ∙ c.terms-test.true)
    (subst (λ (left : List ℕ). Misses c.in-Err.error (place_hit_at left)) c.behind_first.ensures c.in-Err.ensures) c.terms.invariant
