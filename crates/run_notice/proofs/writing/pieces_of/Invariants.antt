-- the pieces so far, and the texts that are left, are all
use Rattle.std.proofs.Common.{◌≡◌, ◌+◌, ◌++◌, drop, flat_map}
use Rattle.check_notice.specs.Written.{texts_from}
use Rattle.run_notice.specs.Pieces.{piece_text}
use Rattle.run_notice.proofs.writing.pieces_of.Given as goal

abbrev pub invariant-texts : goal.invariant-texts
invariant-texts l = flat_map piece_text l.pieces ++ texts_from (l.place + 1) (drop l.place l.texts) ≡ texts_from 1 l.texts
