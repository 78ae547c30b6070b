use Rattle.std.proofs.Common.{◌∙◌, ap}
use Rattle.diag_core.specs.texts.Synthetic.{PlacedText, written_all}
use Rattle.gather_core.specs.findings.Pieces.{file_pieces}
use Rattle.gather_core.proofs.findings.PieceLemmas.{item_written}
use Rattle.gather_core.proofs.findings.synthesis.write_files.Goals as goal

pub files-preserved : goal.files-preserved
files-preserved c =
    let pieces = file_pieces c.args.folder.now in
    let file = c.file-item.result in
    c.in_ok-write_file.ensures ∙ ap (λ (kept : PlacedText). written_all kept (pieces file)) c.files.invariant
    ∙ item_written pieces c.args.synthetic.now c.args.files.now c.files.file-index file c.files-test.true c.file-item.is
