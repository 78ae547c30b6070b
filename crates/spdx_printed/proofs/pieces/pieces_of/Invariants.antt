-- The nodes that are left lead to what all lead to.
use Rattle.std.proofs.Common.{◌≡◌, length, reverse}
use Rattle.spdx_printed.specs.Pieces.{gone_over, nothing_printed, progress_of}
use Rattle.spdx_printed.proofs.pieces.pieces_of.Given as goal

abbrev pub invariant-nodes : goal.invariant-nodes
invariant-nodes l = gone_over (progress_of l.progress) (reverse l.rest) ≡ gone_over nothing_printed (reverse l.nodes)

abbrev pub decreases-nodes : goal.decreases-nodes
decreases-nodes l = length l.rest
