-- the pieces so far are written, and the count has not fallen
use Rattle.std.proofs.Common.{◌≤◌, flat_map, take}
use Rattle.tree_core.specs.Faults.{Gained}
use Rattle.run_notice.specs.Pieces.{piece_text}
use Rattle.run_notice.proofs.writing.write_pieces.Given as goal

abbrev pub invariant-pieces : goal.invariant-pieces
invariant-pieces g l =
    Gained (g.O.Sink.written l.fn.out) (g.O.Sink.written l.out) (flat_map piece_text (take l.piece-index l.pieces))
    × (g.O.Sink.fault_count l.fn.out ≤ g.O.Sink.fault_count l.out)
