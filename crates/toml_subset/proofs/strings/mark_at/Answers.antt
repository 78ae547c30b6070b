use Rattle.std.proofs.Common.{arith}
use Rattle.toml_subset.proofs.PlainRuns.{marks_inside}
use Rattle.toml_subset.proofs.strings.mark_at.Goals as goal

pub returns-then-marks_at-eq3-clause-closes : goal.returns-then-marks_at-eq3-clause-closes
returns-then-marks_at-eq3-clause-closes c =
    let within = marks_inside c.mark.result c.args.text.now c.args.place (omega arith) in
    let three = c.if-marks_at-eq3.true in
    let counted = c.marks_at.ensures in
    omega arith
