use Rattle.std.proofs.Common.{◌-◌, true, length}
use Rattle.std.specs.Prelude.{string_bytes}
use Rattle.std.specs.Str.{IsCharBoundary}
use Rattle.toml_subset.specs.StringViews.{kind_of, IsStringRead}
use Rattle.toml_subset.proofs.strings.read_escaped.Given as goal

-- the string was read up to the place
abbrev pub invariant-parts : goal.invariant-parts
invariant-parts l = IsCharBoundary l.text l.place × IsStringRead (kind_of l.quotes) l.text l.first (string_bytes l.held) true l.place

abbrev pub decreases-parts : goal.decreases-parts
decreases-parts l = length l.text - l.place
