-- One package more, the first fault, and the end.
use Rattle.std.proofs.Common.{◌≡◌, ◌∷◌, [], ◌++◌, map, ap}
use Rattle.std.proofs.lemmas.Result.{err_from_is_err_and}
use Rattle.std.proofs.lemmas.List.{map_push}
use Rattle.serde_json.specs.View.{view, items_view}
use Rattle.graph_core.specs.Krate.{record_of}
use Rattle.graph_metadata.specs.Packages.{package_row, packages_in}
use Rattle.graph_metadata.proofs.EachLemmas.{each-view, starts, goes_on, ends, is_done}
use Rattle.graph_metadata.proofs.package.packages_in.Goals as goal

pub packages-init : goal.packages-init
packages-init c =
    starts (λ j value. package_row c.args.sparse_dir.now c.args.known.now j (view value)) c.args.packages.now 0 (map record_of c.in_ok-crates.crates.items)
    (packages_in c.args.sparse_dir.now c.args.known.now (items_view c.args.packages.now))
    (ap (map record_of) c.in_ok-crates.ensures.items)
    (each-view (λ j value. package_row c.args.sparse_dir.now c.args.known.now j value) c.args.packages.now)

pub returns-in_err-krate : goal.returns-in_err-krate
returns-in_err-krate c =
    let p = err_from_is_err_and c.from_residual-in_err-krate.result c.from_residual-in_err-krate.ensures.1 in
    rw (p.1, p.2)
    (ends (λ j value. package_row c.args.sparse_dir.now c.args.known.now j (view value)) c.args.packages.now c.packages.index
    (map record_of c.packages.crates.items) (packages_in c.args.sparse_dir.now c.args.known.now (items_view c.args.packages.now)) c.index-packages-index.result
    c.in_err-krate.field-0.0 c.packages-test.true c.index-packages-index.is c.in_err-krate.ensures c.packages.invariant)

pub packages-preserved : goal.packages-preserved
packages-preserved c =
    let more : map record_of c.push.new.self.items ≡ map record_of c.packages.crates.items ++ record_of c.in_ok-krate.krate ∷ [] =
    rw c.in_ok-push.ensures.items (map_push record_of c.packages.crates.items c.in_ok-krate.krate) in
    rw more
    (goes_on (λ j value. package_row c.args.sparse_dir.now c.args.known.now j (view value)) c.args.packages.now c.packages.index
    (map record_of c.packages.crates.items) (packages_in c.args.sparse_dir.now c.args.known.now (items_view c.args.packages.now)) c.index-packages-index.result
    (record_of c.in_ok-krate.krate) c.packages-test.true c.index-packages-index.is c.in_ok-krate.ensures c.packages.invariant)

pub returns : goal.returns
returns c =
    is_done (λ j value. package_row c.args.sparse_dir.now c.args.known.now j (view value)) c.args.packages.now c.packages.index
    (map record_of c.packages.crates.items) (packages_in c.args.sparse_dir.now c.args.known.now (items_view c.args.packages.now)) c.packages-test.false c.packages.invariant
