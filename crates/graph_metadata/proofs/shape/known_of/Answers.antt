-- One item more, and the end.
use Rattle.std.proofs.Common.{◌+◌, drop, sym, ◌∙◌, ap}
use Rattle.serde_json.specs.View.{items_view}
use Rattle.graph_metadata.specs.Shape.{known_in, with_place}
use Rattle.graph_metadata.proofs.FoldLemmas.{known-step, known-end}
use Rattle.graph_metadata.proofs.shape.known_of.Goals as goal

pub packages-preserved : goal.packages-preserved
packages-preserved c =
    c.packages.invariant
    ∙ (known-step c.packages.known c.args.packages.now c.packages.index c.index-packages-index.result c.packages-test.true
    c.index-packages-index.is
    ∙ ap (λ known. known_in known (c.packages.index + 1) (items_view (drop (c.packages.index + 1) c.args.packages.now)))
    (ap (with_place c.packages.known c.packages.index) (sym c.id_of_item.ensures) ∙ sym c.in_ok-note_place.ensures))

pub returns : goal.returns
returns c =
    sym (c.packages.invariant ∙ known-end c.packages.known c.args.packages.now c.packages.index c.packages-test.false)
