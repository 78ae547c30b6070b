use Rattle.std.proofs.Common.{◌≡◌, [], length}
use Rattle.check_record.specs.Reading.{chosen_on}
use Rattle.check_record.proofs.decode_parts.read_chosen.Given as goal

-- what is left, behind what was read so far, is all
abbrev pub invariant-terms : goal.invariant-terms
invariant-terms l = chosen_on (length l.rest) l.choice l.hits l.rest ≡ chosen_on (length l.bytes) [] [] l.bytes

abbrev pub decreases-terms : goal.decreases-terms
decreases-terms l = length l.rest
