use Rattle.std.proofs.Common.{◌-◌, length, map}
use Rattle.toml_subset.proofs.frames.Stacks.{IsReading}
use Rattle.toml_subset.specs.frames.Frames.{turn_place}
use Rattle.toml_value.specs.StackViews.{frame_view, turn_view}
use Rattle.toml_value.proofs.values.read_with.Given as goal

-- what is wanted is what the turn gives, read on from each frame
abbrev pub invariant-turns : goal.invariant-turns
invariant-turns l = IsReading l.text l.fn.above l.fn.place (map frame_view l.waiting.items) (turn_view l.turn)

-- each turn goes on by a byte at least
abbrev pub decreases-turns : goal.decreases-turns
decreases-turns l = length l.text - turn_place (turn_view l.turn)
