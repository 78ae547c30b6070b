-- One item more, the first fault, and the end.
use Rattle.std.proofs.Common.{Ok, ◌∙◌, ap, sym}
use Rattle.std.proofs.lemmas.Result.{err_from_is_err_and}
use Rattle.serde_json.specs.View.{view, items_view}
use Rattle.graph_metadata.specs.Shape.{text_here, texts_in}
use Rattle.graph_metadata.specs.Told.{item_place}
use Rattle.graph_metadata.proofs.EachLemmas.{each-view, starts, goes_on, ends, is_done}
use Rattle.graph_metadata.proofs.shape.texts_in.Goals as goal

pub items-init : goal.items-init
items-init c =
    starts (λ j value. text_here (item_place c.args.place c.args.key.now j) (view value)) c.args.items.now 0 c.from-texts.result
    (texts_in c.args.place c.args.key.now (items_view c.args.items.now)) (c.from-texts.ensures ∙ c.in_ok-with_capacity.ensures.items)
    (each-view (λ j value. text_here (item_place c.args.place c.args.key.now j) value) c.args.items.now)

pub returns-in_err-text : goal.returns-in_err-text
returns-in_err-text c =
    let p = err_from_is_err_and c.from_residual-in_err-text.result c.from_residual-in_err-text.ensures.1 in
    rw (p.1, p.2)
    (ends (λ j value. text_here (item_place c.args.place c.args.key.now j) (view value)) c.args.items.now c.items.index
    c.items.texts (texts_in c.args.place c.args.key.now (items_view c.args.items.now)) c.index-items-index.result
    c.in_err-text.field-0.0 c.items-test.true c.index-items-index.is c.in_err-text.ensures c.items.invariant)

pub items-preserved : goal.items-preserved
items-preserved c =
    rw c.in_ok-push.ensures.ok
    (goes_on (λ j value. text_here (item_place c.args.place c.args.key.now j) (view value)) c.args.items.now c.items.index
    c.items.texts (texts_in c.args.place c.args.key.now (items_view c.args.items.now)) c.index-items-index.result
    c.in_ok-copy.field-0 c.items-test.true c.index-items-index.is
    (c.in_ok-text.ensures ∙ ap Ok (sym c.in_ok-copy.ensures)) c.items.invariant)

pub returns : goal.returns
returns c =
    is_done (λ j value. text_here (item_place c.args.place c.args.key.now j) (view value)) c.args.items.now c.items.index
    c.items.texts (texts_in c.args.place c.args.key.now (items_view c.args.items.now)) c.items-test.false c.items.invariant
