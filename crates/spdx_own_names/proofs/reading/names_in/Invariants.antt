-- the names so far, and those of the lines that are left
use Rattle.std.proofs.Common.{◌≡◌, ◌++◌, length}
use denote.Text.{Utf8}
use denote.Shadow.{shadow}
use Rattle.spdx_own_names.specs.File.{lines_of, names_in}
use Rattle.spdx_own_names.proofs.reading.names_in.Given as goal

abbrev pub invariant-lines : goal.invariant-lines
invariant-lines l = shadow (Utf8 l.rest) × (names_in (lines_of l.text) ≡ l.names ++ names_in (lines_of l.rest))

abbrev pub decreases-lines : goal.decreases-lines
decreases-lines l = length l.rest
