-- What is reported of all is what is reported of the rest, behind what was reported before.
use Rattle.std.proofs.Common.{◌≡◌, map, drop}
use Rattle.serde_json.specs.View.{view, items_view}
use Rattle.graph_core.specs.Krate.{record_of}
use Rattle.graph_metadata.specs.Packages.{package_row, packages_in}
use Rattle.graph_metadata.specs.Told.{reading_of_each}
use Rattle.graph_metadata.proofs.EachLemmas.{onto}
use Rattle.graph_metadata.proofs.package.packages_in.Given as goal

abbrev pub invariant-packages : goal.invariant-packages
invariant-packages l =
    packages_in l.sparse_dir l.known (items_view l.packages)
    ≡ onto (map record_of l.crates.items) (reading_of_each (λ j value. package_row l.sparse_dir l.known j (view value)) l.index (drop l.index l.packages))
