use Rattle.std.proofs.Common.{length}
use Rattle.toml_subset.proofs.key_index.places.+all_places.Given as goal

abbrev pub decreases-all_places : goal.decreases-all_places
decreases-all_places l = length l.keys.now
