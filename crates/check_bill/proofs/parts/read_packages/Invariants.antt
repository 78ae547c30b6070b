use Rattle.std.proofs.Common.{◌≡◌, [], length}
use Rattle.check_bill.specs.Reading.{packages_on}
use Rattle.check_bill.proofs.parts.read_packages.Given as goal

-- what is left, behind what was read so far, is all
abbrev pub invariant-packages : goal.invariant-packages
invariant-packages l = packages_on (length l.rest) l.packages l.rest ≡ packages_on (length l.bytes) [] l.bytes

abbrev pub decreases-packages : goal.decreases-packages
decreases-packages l = length l.rest
