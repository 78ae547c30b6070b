-- The places of ids, after one was set anew.
use Rattle.std.specs.Prelude.{ℕ, List, Option, Some, None}
use Rattle.std.specs.FinMap as finmap
use Rattle.graph_metadata.specs.Shape.{IdPlaces}

-- with the place again that an id had before, where it had one
abbrev pub given_back : IdPlaces → List ℕ → Option ℕ → IdPlaces
given_back known id None = known
given_back known id (Some first) = finmap.insert known id first
