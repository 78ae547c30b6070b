-- What was found is the last among the pairs so far.
use Rattle.std.proofs.Common.{◌≡◌, take}
use Rattle.std.specs.Option.{option_copied}
use Rattle.graph_core.specs.source.Git.{last_spec}
use Rattle.graph_core.proofs.source.query.last_spec.Given as goal

abbrev pub invariant-pairs : goal.invariant-pairs
invariant-pairs l = option_copied l.found ≡ last_spec (take l.pair-index l.pairs)
