-- The spots so far, and those of the rest, are all.
use Rattle.std.proofs.Common.{◌≡◌, ◌++◌, map}
use Rattle.graph_metadata.specs.Records.{spot_of, spots_of}
use Rattle.graph_metadata.proofs.order.spots_of.Given as goal

abbrev pub invariant-spots : goal.invariant-spots
invariant-spots l = l.spots.items ++ map (spot_of l.firsts) l.id-iterator ≡ spots_of l.known l.firsts
