-- those found so far, and those among the places left whose spec matches
use Rattle.std.proofs.Common.{◌≡◌, ◌++◌, length, map}
use Rattle.std.specs.List.{filter}
use Rattle.graph_core.specs.Krate.{record_of}
use Rattle.policy_parts.specs.spec.Index.{matches_at, matching_places}
use Rattle.policy_parts.proofs.spec.index.SpecIndex.matches.Given as goal

abbrev pub invariant-places : goal.invariant-places
invariant-places g l =
    l.found ++ filter (matches_at (map g.S.HasSpec.spec_of l.items) (record_of l.krate)) l.left
    ≡ matching_places (map g.S.HasSpec.spec_of l.items) (record_of l.krate)

abbrev pub decreases-places : goal.decreases-places
decreases-places g l = length l.left
