-- The crates that were kept, and those of the rest, are all.
use Rattle.std.proofs.Common.{◌≡◌, ◌++◌}
use Rattle.std.specs.Iterator.Adapters.{zip_first, zip_second}
use Rattle.std.specs.Slice.Iter.{iter_rest}
use Rattle.std.specs.Vec.Iter.{into_iter_items}
use Rattle.graph_core.specs.selection.Places.{marked_items}
use Rattle.graph_core.proofs.selection.krates.crates_kept.Given as goal

abbrev pub invariant-crates : goal.invariant-crates
invariant-crates l =
    l.left.items ++ marked_items (into_iter_items (zip_first l.krate-iterator)) (iter_rest (zip_second l.krate-iterator))
    ≡ marked_items l.fn.crates.items l.marks
