use Rattle.std.proofs.Common.{◌-◌, length}
use Rattle.toml_subset.specs.frames.LinesRead.{AreLinesRead}
use Rattle.toml_value.specs.LevelViews.{cursor_view}
use Rattle.toml_value.proofs.reader.parse.Given as goal

abbrev pub invariant-lines : goal.invariant-lines
invariant-lines l = AreLinesRead l.text (cursor_view l.document) l.place

abbrev pub decreases-lines : goal.decreases-lines
decreases-lines l = length l.text - l.place
