-- The text has the pairs so far, but `branch=master`.
use Rattle.std.proofs.Common.{◌≡◌, [], take, fold, string_bytes}
use Rattle.graph_core.specs.source.Git.{with_kept}
use Rattle.graph_core.proofs.source.query.QueryPairs.text_without_master.Given as goal

abbrev pub invariant-pairs : goal.invariant-pairs
invariant-pairs l = string_bytes l.text ≡ fold with_kept [] (take l.pair-index l.pair-items)
