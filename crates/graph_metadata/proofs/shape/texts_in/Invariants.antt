-- What is reported of all items is what is reported of the rest, behind the texts so far.
use Rattle.std.proofs.Common.{◌≡◌, drop}
use Rattle.serde_json.specs.View.{view, items_view}
use Rattle.graph_metadata.specs.Shape.{text_here, texts_in}
use Rattle.graph_metadata.specs.Told.{reading_of_each, item_place}
use Rattle.graph_metadata.proofs.EachLemmas.{onto}
use Rattle.graph_metadata.proofs.shape.texts_in.Given as goal

abbrev pub invariant-items : goal.invariant-items
invariant-items l =
    texts_in l.place l.key (items_view l.items)
    ≡ onto l.texts (reading_of_each (λ j value. text_here (item_place l.place l.key j) (view value)) l.index (drop l.index l.items))
