-- The slots so far, and those of the rest, are all.
use Rattle.std.proofs.Common.{◌≡◌, ◌++◌, map, Some}
use Rattle.std.specs.Vec.Iter.{into_iter_items}
use Rattle.graph_metadata.proofs.order.slots_of.Given as goal

abbrev pub invariant-crates : goal.invariant-crates
invariant-crates l = l.slots.items ++ map Some (into_iter_items l.krate-iterator) ≡ map Some l.fn.crates.items
