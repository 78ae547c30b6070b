use Rattle.std.proofs.Common.{◌≡◌, ◌∷◌, drop}
use Rattle.std.specs.Prelude.{slice_get}
use Rattle.diag_core.specs.Position.{line_starts, places_behind_line_feeds}
use Rattle.diag_core.proofs.line_scan.searched.Given as goal

-- the start that is known and those that are still to come have the line's
abbrev pub invariant-places : goal.invariant-places
invariant-places l =
    slice_get (l.search.start ∷ places_behind_line_feeds l.place (drop l.place l.text)) l.search.left ≡ slice_get (line_starts l.text) l.line
