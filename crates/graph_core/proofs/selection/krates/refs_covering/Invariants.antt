-- The crates so far, and those that are left, are all.
use Rattle.std.proofs.Common.{◌≡◌, ◌++◌, drop, filter, map}
use Rattle.graph_core.specs.selection.Listed.{crates_in, listed_crates, record_behind}
use Rattle.graph_core.specs.selection.Places.{covers}
use Rattle.graph_core.proofs.selection.krates.refs_covering.Given as goal

abbrev pub invariant-crates : goal.invariant-crates
invariant-crates l =
    map record_behind l.refs.items
    ++ crates_in (filter (λ item. covers l.needed item.without) (listed_crates (drop l.place l.crates) (drop l.place l.without)))
    ≡ crates_in (filter (λ item. covers l.needed item.without) (listed_crates l.crates l.without))
