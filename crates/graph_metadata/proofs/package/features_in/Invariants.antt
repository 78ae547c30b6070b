-- The features of all members are those so far, with those of the rest.
use Rattle.std.proofs.Common.{◌≡◌}
use Rattle.std.specs.FinMap as finmap
use Rattle.serde_json.specs.View.{members_view}
use Rattle.graph_metadata.specs.Packages.{features_in}
use Rattle.graph_metadata.proofs.package.features_in.Given as goal

abbrev pub invariant-features : goal.invariant-features
invariant-features l =
    features_in l.index finmap.empty (members_view l.members.entries)
    ≡ features_in l.index l.features (members_view l.name-iterator)
