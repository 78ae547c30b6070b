use Rattle.std.proofs.Common.{List, ℕ, flat_map, subst}
use Rattle.tree_core.specs.Faults.{Gained}
use Rattle.gather_license.proofs.files.CallLemmas.{on_err}
use Rattle.run_notice.specs.Pieces.{piece_text}
use Rattle.run_notice.proofs.WritingLemmas.{gained_front}
use Rattle.run_notice.proofs.writing.write_parts.Goals as goal

pub returns-in_err-write_pieces-clause-err : goal.returns-in_err-write_pieces-clause-err
returns-in_err-write_pieces-clause-err g c =
    let old = g.O.Sink.written c.args.out.now in
    let middle = g.O.Sink.written c.write_all.new.sink in
    on_err c.from_residual-in_err-write_pieces.result _
    (gained_front old middle (g.O.Sink.written c.write_pieces.new.out) c.args.lines.now (flat_map piece_text c.args.pieces.now)
    (subst (λ (text : List ℕ). Gained old middle text) c.as_bytes.ensures.value c.in_ok-write_all.ensures.ok) c.in_err-write_pieces.ensures.err)
