-- The kinds so far, and those that are left, are all.
use Rattle.std.proofs.Common.{◌≡◌, ◌++◌, drop}
use Rattle.graph_core.specs.selection.Places.{kinds_kept}
use Rattle.graph_core.proofs.selection.krates.kinds_kept.Given as goal

abbrev pub invariant-places : goal.invariant-places
invariant-places l =
    l.kinds.items ++ kinds_kept l.without.normal.items l.without.dev.items l.without.build.items l.place (drop l.place l.marks)
    ≡ kinds_kept l.without.normal.items l.without.dev.items l.without.build.items 0 l.marks
