-- What waits and what is printed lead to what they led to at first.
use Rattle.std.proofs.Common.{◌≡◌, length, reverse}
use Rattle.spdx_printed.specs.Pieces.{after_part}
use Rattle.spdx_printed.proofs.pieces.end_part.Given as goal

abbrev pub invariant-waiting : goal.invariant-waiting
invariant-waiting l = after_part (reverse l.waiting.items) (reverse l.pieces.items) ≡ after_part (reverse l.fn.waiting.items) (reverse l.fn.pieces.items)

abbrev pub decreases-waiting : goal.decreases-waiting
decreases-waiting l = length (reverse l.waiting.items)
