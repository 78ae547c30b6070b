use Rattle.std.proofs.Common.{ap, length, ◌∙◌, arith}
use Rattle.diag_core.proofs.PositionLemmas.{length-line_starts}
use Rattle.diag_core.proofs.line_index.LineIndex.line_count.Goals as goal

pub returns : goal.returns
returns c = omega (arith, ap length c.requires.lines ∙ length-line_starts c.args.text.now)
