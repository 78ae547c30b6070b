use Rattle.std.proofs.Common.{◌≡◌, [], length}
use Rattle.check_record.specs.Reading.{places_on}
use Rattle.check_record.proofs.decode_parts.read_places.Given as goal

-- what is left, behind what was read so far, is all
abbrev pub invariant-terms : goal.invariant-terms
invariant-terms l = places_on (length l.rest) l.places l.rest ≡ places_on (length l.bytes) [] l.bytes

abbrev pub decreases-terms : goal.decreases-terms
decreases-terms l = length l.rest
