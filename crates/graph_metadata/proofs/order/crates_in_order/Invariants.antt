-- The crates so far, and those that the rest takes out, are all; what the rest takes out is still there.
use Rattle.std.proofs.Common.{◌≡◌, ◌<◌, ◌++◌, map, drop, length, slice_get}
use Rattle.std.specs.List.{AllByRecursion, filter_map}
use Rattle.graph_metadata.specs.Order.{spot_place}
use Rattle.graph_metadata.specs.Sound.{AreApart}
use Rattle.graph_metadata.proofs.OrderLemmas.{Held}
use Rattle.graph_metadata.proofs.order.crates_in_order.Given as goal

abbrev pub invariant-spots : goal.invariant-spots
invariant-spots l = record {
  held : Held l.slots.items l.fn.crates.items (map spot_place (drop l.spot-index l.spots));
  apart : AreApart (map spot_place (drop l.spot-index l.spots));
  below : AllByRecursion (λ place. place < length l.slots.items) (map spot_place (drop l.spot-index l.spots));
  so_far : l.ordered.items ++ filter_map (slice_get l.fn.crates.items) (map spot_place (drop l.spot-index l.spots))
      ≡ filter_map (slice_get l.fn.crates.items) (map spot_place l.spots);
}
