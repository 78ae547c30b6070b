use Rattle.std.proofs.Common.{◌≡◌, length}
use Rattle.check_record.specs.Reading.{digits_on}
use Rattle.check_record.proofs.digits.read_digits.Given as goal

-- the digits that are left, behind the number so far, are all
abbrev pub invariant-digits : goal.invariant-digits
invariant-digits l = digits_on l.number l.rest ≡ digits_on 0 l.bytes

abbrev pub decreases-digits : goal.decreases-digits
decreases-digits l = length l.rest
