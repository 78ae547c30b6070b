use Rattle.std.proofs.Common.{◌≡◌, [], length}
use Rattle.check_record.specs.Reading.{items_on}
use Rattle.check_record.proofs.decode_parts.read_items.Given as goal

-- what is left, behind what was read so far, is all
abbrev pub invariant-items : goal.invariant-items
invariant-items l = items_on (length l.rest) l.items l.rest ≡ items_on (length l.bytes) [] l.bytes

abbrev pub decreases-items : goal.decreases-items
decreases-items l = length l.rest
