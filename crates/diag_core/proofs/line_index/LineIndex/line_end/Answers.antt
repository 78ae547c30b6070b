use Rattle.std.proofs.Common.{ap, length, ◌∙◌, arith}
use Rattle.diag_core.proofs.PositionLemmas.{length-line_starts}
use Rattle.diag_core.proofs.line_index.LineIndex.line_end.Goals as goal

pub overflow_add-line : goal.overflow_add-line
overflow_add-line c =
    let starts = c.args.self.now.line_starts in
    let count = ap length c.requires.index.lines ∙ length-line_starts c.args.text.now in
    omega (arith, count, starts.ok.0, starts.small)
