use Rattle.std.proofs.Common.{◌≡◌, ◌++◌, length, drop}
use Rattle.std.specs.List.{slice_split}
use Rattle.run_request.specs.Reading.{is_comma}
use Rattle.run_request.proofs.rows.push_pieces.Given as goal

-- the pieces so far, and those that are left
abbrev pub invariant-pieces : goal.invariant-pieces
invariant-pieces l = l.texts ++ drop (length l.yielded) (slice_split is_comma l.word) ≡ l.initial.texts ++ slice_split is_comma l.word
