use Rattle.std.proofs.Common.{◌≡◌, length, reverse}
use Rattle.spdx_core.specs.certificates.Machine.{way_of, walked_over, walk_start}
use Rattle.spdx_core.proofs.certificates.walk.gathered.Given as goal

-- the marks that are left lead to what all lead to
abbrev pub invariant-marks : goal.invariant-marks
invariant-marks l = walked_over l.walk (way_of l.walked) (reverse l.rest) ≡ walked_over l.walk walk_start (reverse l.marks)

abbrev pub decreases-marks : goal.decreases-marks
decreases-marks l = length l.rest
