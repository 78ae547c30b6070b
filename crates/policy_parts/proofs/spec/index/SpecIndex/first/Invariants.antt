-- the first place whose spec matches is among those left
use Rattle.std.proofs.Common.{◌≡◌, length, map}
use Rattle.std.specs.List.{filter}
use Rattle.graph_core.specs.Krate.{record_of}
use Rattle.policy_parts.specs.spec.Index.{first_of, matches_at, matching_places}
use Rattle.policy_parts.proofs.spec.index.SpecIndex.first.Given as goal

abbrev pub invariant-places : goal.invariant-places
invariant-places g l =
    first_of (filter (matches_at (map g.S.HasSpec.spec_of l.items) (record_of l.krate)) l.left)
    ≡ first_of (matching_places (map g.S.HasSpec.spec_of l.items) (record_of l.krate))

abbrev pub decreases-places : goal.decreases-places
decreases-places g l = length l.left
