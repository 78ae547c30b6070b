use Rattle.std.proofs.Common.{length}
use Rattle.spdx_own_names.proofs.line.+marks_among.Given as goal

abbrev pub decreases-marks_among : goal.decreases-marks_among
decreases-marks_among l = length l.marks.now
