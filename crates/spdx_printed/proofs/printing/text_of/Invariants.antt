-- The text so far, and that of the pieces that are left.
use Rattle.std.proofs.Common.{◌≡◌, ◌++◌, drop, string_bytes}
use Rattle.std.specs.List.{flat_map}
use Rattle.spdx_printed.specs.Pieces.{piece_text}
use Rattle.spdx_printed.proofs.printing.text_of.Given as goal

abbrev pub invariant-pieces : goal.invariant-pieces
invariant-pieces l = string_bytes l.text ++ flat_map (piece_text l.terms) (drop l.piece-index l.pieces) ≡ flat_map (piece_text l.terms) l.pieces
