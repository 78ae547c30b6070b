use Rattle.std.proofs.Common.{ap, get_or, length, ◌∙◌, arith}
use Rattle.std.proofs.lemmas.List.{get_or_read}
use Rattle.diag_core.proofs.PositionLemmas.{length-line_starts}
use Rattle.diag_core.proofs.line_index.LineIndex.line_start.Goals as goal

pub index-requires : goal.index-requires
index-requires c =
    let starts = c.args.self.now.line_starts in
    let count = ap length c.requires.index.lines ∙ length-line_starts c.args.text.now in
    omega (arith, count, starts.ok.0)

pub returns : goal.returns
returns c =
    let starts = c.args.self.now.line_starts in
    let count = ap length c.requires.index.lines ∙ length-line_starts c.args.text.now in
    get_or_read starts.items _ _ (omega (arith, count)) c.index.ensures 0
    ∙ ap (λ xs. get_or xs c.args.line 0) c.requires.index.lines
