-- The pairs so far, and those that are left, are the pairs of the query.
use Rattle.std.proofs.Common.{◌≡◌, ◌++◌, map}
use Rattle.form_urlencoded.specs.Parse.{pairs_left}
use Rattle.graph_core.specs.source.Git.{decoded_pair, query_of}
use Rattle.graph_core.proofs.source.query.query_pairs.Given as goal

abbrev pub invariant-pairs : goal.invariant-pairs
invariant-pairs l = l.pairs.items ++ map decoded_pair (pairs_left l.pair-iterator) ≡ query_of l.url
