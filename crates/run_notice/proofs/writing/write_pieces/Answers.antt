use Rattle.gather_license.proofs.files.CallLemmas.{on_err}
use Rattle.run_notice.specs.Pieces.{piece_text}
use Rattle.run_notice.proofs.WritingLemmas.{front_of_items}
use Rattle.run_notice.proofs.writing.write_pieces.Goals as goal

pub returns-in_err-write_piece-clause-err : goal.returns-in_err-write_piece-clause-err
returns-in_err-write_piece-clause-err g c =
    on_err c.from_residual.result _
    (front_of_items piece_text c.args.pieces.now c.pieces.piece-index c.piece-item.result (g.O.Sink.written c.args.out.now) (g.O.Sink.written c.pieces.out) (g.O.Sink.written c.write_piece.new.out)
    c.pieces-test.true c.piece-item.is c.pieces.invariant.0 c.in_err-write_piece.ensures.err)
