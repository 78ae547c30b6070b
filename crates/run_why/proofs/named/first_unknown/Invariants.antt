-- The first such word so far.
use Rattle.std.proofs.Common.{◌≡◌, map, option_copied, take}
use Rattle.graph_core.specs.Krate.{record_of}
use Rattle.run_why.specs.Named.{first_unknown}
use Rattle.run_why.proofs.named.first_unknown.Given as goal

abbrev pub invariant-words : goal.invariant-words
invariant-words l = option_copied l.unknown ≡ first_unknown (take l.word-index l.words) (map record_of l.crates)
