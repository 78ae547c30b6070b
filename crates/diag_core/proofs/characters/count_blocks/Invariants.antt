use Rattle.std.proofs.Common.{◌≡◌, ℕ, ◌+◌, ◌*◌, ◌≤◌, length, take}
use Rattle.std.specs.List.{count_by, slice_index}
use Rattle.diag_core.specs.Position.{begins_character}
use Rattle.diag_core.proofs.characters.count_blocks.Given as goal

-- so many characters are before each block so far
abbrev pub invariant-counted : goal.invariant-counted
invariant-counted l =
    (length l.counts.items ≡ l.block-index + 1)
    × (l.count ≡ count_by begins_character (take (l.block-index * 256) l.text))
    × ((k : ℕ) → k ≤ l.block-index → slice_index l.counts.items k ≡ count_by begins_character (take (k * 256) l.text))
